use Rattle.std.proofs.Common.{ap, sym, ◌∙◌}
use Rattle.sha2.specs.Sha512.{compress, digest_bytes}
use Rattle.luks_rounds.specs.Wide.{last_block}
use Rattle.luks_lanes.proofs.WideFacts.{hmac_wide}
use Rattle.luks_lanes.proofs.wide_turns.ArrayU648Lanes.tagged.Goals as goal

pub returns : goal.returns
returns c = λ key j lt whole held.
    ap (λ w. digest_bytes w 8) (c.compress.ensures ∙ ap (λ m. compress c.args.outer.now (last_block m)) c.compress-middle.ensures)
    ∙ sym (hmac_wide key _ _ _ whole held.0 held.1)
