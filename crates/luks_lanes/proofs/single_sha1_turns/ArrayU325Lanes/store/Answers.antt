use Rattle.std.proofs.Common.{◌≡◌, length, drop, arith, ap, sym, ◌∙◌}
use Rattle.std.proofs.lemmas.List.{length-take-le, take_at}
use Rattle.sha1.specs.Sha1.{digest_bytes}
use Rattle.sha2.specs.Sha256 as Sha256
use Rattle.luks_lanes.proofs.ByteFacts.{same_bytes}
use Rattle.luks_lanes.proofs.Sha1Facts.{length-words}
use Rattle.luks_lanes.proofs.WideFacts.{below_one}
use Rattle.luks_lanes.proofs.single_sha1_turns.ArrayU325Lanes.store.Goals as goal

pub write_words-requires : goal.write_words-requires
write_words-requires c = omega (arith, length-take-le 20 c.args.row.now (omega arith))

pub returns-then-row-ge20 : goal.returns-then-row-ge20
returns-then-row-ge20 c =
    let words = c.args.self.now in
    let five : length words ≡ 5 = omega arith in
    let wrote : c.write_words.new.bytes ≡ digest_bytes words 5 =
    c.write_words.ensures ∙ ap (Sha256.digest_bytes words) five ∙ sym (same_bytes words 5) in
    below_one _ (λ there.
    take_at c.write_words.new.bytes (drop 20 c.args.row.now) 20 (ap length wrote ∙ length-words words 5) ∙ wrote)
