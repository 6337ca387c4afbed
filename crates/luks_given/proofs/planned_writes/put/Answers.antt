use Rattle.std.proofs.Common.{◌≡◌, ℕ, ◌-◌, List, length, take, drop, sym, ap, ◌∙◌, arith}
use Rattle.luks_area.specs.Ranges.{part, written}
use Rattle.luks_given.proofs.PlayFacts.{part-met_written, part-unmet_written}
use Rattle.luks_given.proofs.planned_writes.put.Goals as goal

pub returns-then-last-first-clause-met : goal.returns-then-last-first-clause-met
returns-then-last-first-clause-met c = λ v fits inside is.
    let apart = c.if-last-first.true in
    let begins = c.max-first.ensures in
    let ends = c.min-last.ensures in
    is ∙ sym (part-unmet_written v c.args.at (length c.args.into.now) c.args.to c.args.from.now fits inside (omega (arith, apart, begins, ends)))

pub returns-clause-met : goal.returns-clause-met
returns-clause-met c = λ v fits inside is.
    let len : ℕ = length c.args.into.now in
    let from : List ℕ = c.args.from.now in
    let first : ℕ = c.max-first.result in
    let last : ℕ = c.min-last.result in
    let met = c.if-last-first.false in
    let begins = c.max-first.ensures in
    let ends = c.min-last.ensures in
    let count : (last - c.args.to) - (first - c.args.to) ≡ last - first = omega (arith, begins, ends, met) in
    let wrote : part (written v c.args.to from) c.args.at len ≡ written (part v c.args.at len) (first - c.args.at) (part from (first - c.args.to) (last - first)) =
    part-met_written v c.args.at len c.args.to first last from fits inside begins ends met in
    c.copy_over.ensures
    ∙ ap (λ l. written l (first - c.args.at) (take (last - c.args.to - (first - c.args.to)) (drop (first - c.args.to) from))) is
    ∙ ap (λ m. written (part v c.args.at len) (first - c.args.at) (take m (drop (first - c.args.to) from))) count
    ∙ sym wrote
