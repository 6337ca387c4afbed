use Rattle.std.proofs.Common.{◌≡◌, eq-eqb, sym, ◌∙◌}
use Rattle.std.proofs.lemmas.Bool.{false≢true}
use Rattle.std.proofs.lemmas.Option.{same_Some}
use Rattle.luks2_judging.proofs.rows.is_named.Goals as goal

pub returns-in-Some-clause-unnamed : goal.returns-in-Some-clause-unnamed
returns-in-Some-clause-unnamed c = λ no named.
    let same : c.in-Some.m ≡ c.args.digest = same_Some c.in-Some.m c.args.digest (c.in-Some.ensures.only c.args.digest named) in
    false≢true (sym no ∙ eq-eqb c.in-Some.m c.args.digest same)
