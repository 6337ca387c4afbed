use Rattle.std.proofs.Common.{◌≡◌, is_some, false, Some, sym, ap, ◌∙◌}
use Rattle.luks1_rebuilding.specs.Tried.{bytes_of}
use Rattle.luks1_rebuilding.proofs.CombinationFacts.{none_of, text_at}
use Rattle.luks1_rebuilding.proofs.trial.combinations.text.Goals as goal

pub returns-clause-is : goal.returns-clause-is
returns-clause-is c =
    let none : is_some c.args.given ≡ false = (let a = c.is_some.ensures in let b = c.if-is_some.false in cc) in
    text_at c.args.header.now c.args.of (bytes_of c.args.given) c.args.place c.owned.result.bytes c.if-place-eq0.false
    (ap bytes_of (none_of c.args.given none))
    (c.in-Some.ensures.some ∙ ap Some (sym c.owned.ensures))
    (λ e. (let stands = c.stands.ensures.1 (sym c.owned.ensures ∙ e) in let no = c.if-stands.false in absurd (cc)))
