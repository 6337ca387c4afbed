use Rattle.std.proofs.Common.{rules, ◌≡◌, arith, sym, ◌∙◌}
use Rattle.std.proofs.lemmas.List.{take_all}
use Rattle.std.proofs.lemmas.Slice.{overwrites}
use Rattle.luks_older_hashes.specs.Ripemd160.{digest_bytes}
use Rattle.luks_older_hashes.proofs.Ripemd160HoldingFacts.{digest_more}
use Rattle.luks_older_hashes.proofs.ripemd160.compression.digest_of.Goals as goal

pub loop-i-init : goal.loop-i-init
unfolding digest_bytes
loop-i-init c = search rules

pub loop-i-preserved : goal.loop-i-preserved
loop-i-preserved c = (
  search (rules, overwrites),
  digest_more c.loop-i.out c.args.state.now _ c.loop-i.i _ c.loop-i.invariant.1 (omega arith)
      (c.copy_from_slice.ensures.after ∙ c.to_le_bytes.ensures),
)

pub returns : goal.returns
returns c =
    let done : c.loop-i.i ≡ 5 = omega (arith, c.loop-i.auto.i-end) in
    sym (take_all 20 c.loop-i.out (omega arith)) ∙ rw done at c.loop-i.invariant.1
