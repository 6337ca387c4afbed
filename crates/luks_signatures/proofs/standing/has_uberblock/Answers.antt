use Rattle.std.proofs.Common.{ℕ, List, take, IfOk, IsTrue, ◌↔◌, subst, sym, ◌∙◌}
use Rattle.std.proofs.lemmas.Bool.{false≢true}
use Rattle.luks_area.specs.Device.{unchanged-then}
use Rattle.luks_signatures.specs.Signatures.{LabelHasUberblock}
use Rattle.luks_signatures.proofs.FrontFacts.{either-second}
use Rattle.luks_signatures.proofs.standing.has_uberblock.Goals as goal

pub returns-clause-unchanged : goal.returns-clause-unchanged
returns-clause-unchanged g c = unchanged-then c.in_ok-label_has_uberblock.ensures.unchanged c.label_has_uberblock-2.ensures.unchanged

pub returns-clause-has : goal.returns-clause-has
returns-clause-has g c = λ t.
    let S : List ℕ → Type 0 = λ v. IfOk c.label_has_uberblock-2.result (λ has. IsTrue has ↔ LabelHasUberblock (take c.args.end v) 262144) in
    either-second _ _ _ c.label_has_uberblock-2.result
    (λ first. false≢true (sym c.if-branch.false ∙ (c.in_ok-label_has_uberblock.ensures.has t).1 first))
    (subst S (c.in_ok-label_has_uberblock.ensures.unchanged.same t) (c.label_has_uberblock-2.ensures.has t))
