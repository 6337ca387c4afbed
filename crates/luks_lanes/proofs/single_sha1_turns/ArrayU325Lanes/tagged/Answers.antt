use Rattle.std.proofs.Common.{ap, sym, ◌∙◌}
use Rattle.sha1.specs.Sha1.{compress, digest_bytes}
use Rattle.luks_rounds.specs.Quad.{last_block}
use Rattle.luks_lanes.proofs.Sha1Facts.{hmac_five}
use Rattle.luks_lanes.proofs.single_sha1_turns.ArrayU325Lanes.tagged.Goals as goal

pub returns : goal.returns
returns c = λ key j lt whole held.
    ap (λ w. digest_bytes w 5) (c.compress.ensures ∙ ap (λ m. compress c.args.outer.now (last_block m)) c.compress-middle.ensures)
    ∙ sym (hmac_five key _ _ _ whole held.0 held.1)
