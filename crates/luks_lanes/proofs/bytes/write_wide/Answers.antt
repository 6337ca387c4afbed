use Rattle.std.proofs.Common.{refl, arith, ◌∙◌}
use Rattle.sha2.specs.Sha512.{digest_bytes}
use Rattle.sha2.proofs.Absorbing512.{digest_more}
use Rattle.luks_lanes.proofs.bytes.write_wide.Goals as goal

pub loop-i-init : goal.loop-i-init
unfolding digest_bytes
loop-i-init c = refl

pub loop-i-preserved : goal.loop-i-preserved
loop-i-preserved c =
    digest_more c.loop-i.bytes c.args.words.now _ c.loop-i.i _ c.loop-i.invariant (omega arith)
    (c.copy_from_slice.ensures.after ∙ c.to_be_bytes.ensures)
