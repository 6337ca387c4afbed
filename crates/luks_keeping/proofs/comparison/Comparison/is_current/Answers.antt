use Rattle.std.proofs.Common.{◌↔◌, Bool, IsTrue, rules, sym, subst}
use Rattle.luks_keeping.specs.ComparisonTexts.{IsCurrent}
use Rattle.luks_keeping.proofs.ComparisonFacts.{current_each}
use Rattle.luks_keeping.proofs.comparison.Comparison.is_current.Goals as goal

pub returns-clause-each : goal.returns-clause-each
returns-clause-each c =
    subst (λ (b : Bool). IsTrue b ↔ IsCurrent c.args.self.now) (sym c.are_all_alike.ensures) (current_each c.args.self.now (search rules))
