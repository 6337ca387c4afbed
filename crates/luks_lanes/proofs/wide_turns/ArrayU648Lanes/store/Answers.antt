use Rattle.std.proofs.Common.{◌≡◌, length, drop, arith, ap, ◌∙◌}
use Rattle.std.proofs.lemmas.List.{length-take-le, take_at}
use Rattle.sha2.specs.Sha512.{digest_bytes}
use Rattle.luks_lanes.proofs.WideFacts.{below_one, length-wide}
use Rattle.luks_lanes.proofs.wide_turns.ArrayU648Lanes.store.Goals as goal

pub write_wide-requires : goal.write_wide-requires
write_wide-requires c = omega (arith, length-take-le 64 c.args.row.now (omega arith))

pub returns-then-row-ge64 : goal.returns-then-row-ge64
returns-then-row-ge64 c =
    let words = c.args.self.now in
    let eight : length words ≡ 8 = omega arith in
    let wrote : c.write_wide.new.bytes ≡ digest_bytes words 8 = c.write_wide.ensures ∙ ap (digest_bytes words) eight in
    below_one _ (λ there.
    take_at c.write_wide.new.bytes (drop 64 c.args.row.now) 64 (ap length wrote ∙ length-wide words 8) ∙ wrote)
