use Rattle.std.proofs.Common.{◌≡◌, length, drop, arith, ap, ◌∙◌}
use Rattle.std.proofs.lemmas.List.{length-take-le, take_at}
use Rattle.sha2.specs.Sha256.{digest_bytes}
use Rattle.luks_lanes.proofs.TurnFacts.{length-digest_bytes}
use Rattle.luks_lanes.proofs.WideFacts.{below_one}
use Rattle.luks_lanes.proofs.single_turns.ArrayU328Lanes.store.Goals as goal

pub write_words-requires : goal.write_words-requires
write_words-requires c = omega (arith, length-take-le 32 c.args.row.now (omega arith))

pub returns-then-row-ge32 : goal.returns-then-row-ge32
returns-then-row-ge32 c =
    let words = c.args.self.now in
    let eight : length words ≡ 8 = omega arith in
    let wrote : c.write_words.new.bytes ≡ digest_bytes words 8 = c.write_words.ensures ∙ ap (digest_bytes words) eight in
    below_one _ (λ there.
    take_at c.write_words.new.bytes (drop 32 c.args.row.now) 32 (ap length wrote ∙ length-digest_bytes words 8) ∙ wrote)
