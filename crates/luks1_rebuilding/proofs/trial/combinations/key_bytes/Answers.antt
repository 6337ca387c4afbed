use Rattle.std.proofs.Common.{◌≡◌, is_some, false, eq-eqb, sym, ◌∙◌}
use Rattle.luks1_header.specs.Header1.{key_bytes_of}
use Rattle.luks1_rebuilding.proofs.CombinationFacts.{length_at, none_of}
use Rattle.luks1_rebuilding.proofs.trial.combinations.key_bytes.Goals as goal

pub returns-clause-is : goal.returns-clause-is
returns-clause-is c =
    let none : is_some c.args.given ≡ false = (let a = c.is_some.ensures in let b = c.if-is_some.false in cc) in
    length_at c.args.header.now c.args.given c.args.place c.in-Some.len c.if-place-eq0.false
    (none_of c.args.given none) (sym c.tried_length.ensures ∙ c.in-Some.is)
    (λ e. (let other = c.if-len-standing_length.false in let is = c.standing_length.ensures in let yes = eq-eqb c.in-Some.len (key_bytes_of c.args.header.now) e in absurd (cc)))
