use Rattle.std.proofs.Common.{ap, sym, ◌∙◌}
use Rattle.sha2.specs.Sha256.{compress, digest_bytes}
use Rattle.luks_rounds.specs.Pair.{lane, last_block}
use Rattle.luks_lanes.proofs.TurnFacts.{hmac_words}
use Rattle.luks_lanes.proofs.pair_turns.ArrayU32x48Lanes.tagged.Goals as goal

pub returns : goal.returns
returns c = λ key j lt whole held.
    ap (λ w. digest_bytes w 8) (c.compress.ensures j lt ∙ ap (λ m. compress (lane j c.args.outer.now) (last_block m)) (c.compress-middle.ensures j lt))
    ∙ sym (hmac_words key _ _ _ whole (held.0 j lt) (held.1 j lt))
