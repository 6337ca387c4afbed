use Rattle.std.proofs.Common.{ap, sym, ◌∙◌}
use Rattle.sha1.specs.Sha1.{compress, digest_bytes}
use Rattle.luks_rounds.specs.Quad.{lane, last_block}
use Rattle.luks_lanes.proofs.Sha1Facts.{hmac_five}
use Rattle.luks_lanes.proofs.quad_turns.ArrayU32x45Lanes.tagged.Goals as goal

pub returns : goal.returns
returns c = λ key j lt whole held.
    ap (λ w. digest_bytes w 5) (c.compress.ensures j lt ∙ ap (λ m. compress (lane j c.args.outer.now) (last_block m)) (c.compress-middle.ensures j lt))
    ∙ sym (hmac_five key _ _ _ whole (held.0 j lt) (held.1 j lt))
