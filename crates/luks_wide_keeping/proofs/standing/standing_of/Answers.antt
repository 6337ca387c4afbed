use Rattle.std.proofs.Common.{ℕ, List, IfOk, sym, subst}
use Rattle.luks2_header.specs.Selection.{IsSelected}
use Rattle.luks2_header.specs.declared.selection.Selected.TheVariants.{V2}
use Rattle.luks_wide_keeping.specs.Counting.{FindsSelected}
use Rattle.luks_wide_keeping.specs.Standings.{StandsSo}
use Rattle.luks_wide_keeping.proofs.StandingFacts.{of_luks1, of_nothing}
use Rattle.luks_wide_keeping.proofs.standing.standing_of.Goals as goal

pub returns-in-Some-V2-clause-stands : goal.returns-in-Some-V2-clause-stands
returns-in-Some-V2-clause-stands g c = λ source tells.
    let b : List ℕ = g.B.Device.bytes c.args.backup.now in
    let t : List ℕ = g.T.Device.bytes c.args.target.now in
    let same_b = c.in_ok-header.ensures.unchanged.same source in
    let same_t = c.in_ok-there.ensures.unchanged.same tells in
    let there : IsSelected t c.in-Some.there = subst (FindsSelected t) c.in-Some.is (c.in_ok-there.ensures.found tells) in
    let own = subst (IsSelected b) c.in-Some-V2.field-0-is (subst (FindsSelected b) c.in-Some-V2.is (c.in_ok-header.ensures.found source)) in
    subst (λ (l : List ℕ). IfOk c.standing_beside.result (StandsSo l t)) same_b
    (subst (λ (l : List ℕ). IfOk c.standing_beside.result (StandsSo (g.B.Device.bytes c.selected-2.new.device) l)) same_t
    (c.standing_beside.ensures.stands source tells c.in-Some-V2.field-0-1
    (subst (λ (l : List ℕ). IsSelected l (V2 c.in-Some-V2.header c.in-Some-V2.field-0-1)) (sym same_b) own) (subst (λ (l : List ℕ). IsSelected l c.in-Some.there) (sym same_t) there)))

pub returns-in-Some-V1-clause-stands : goal.returns-in-Some-V1-clause-stands
returns-in-Some-V1-clause-stands g c = λ source tells.
    let b : List ℕ = g.B.Device.bytes c.args.backup.now in
    let t : List ℕ = g.T.Device.bytes c.args.target.now in
    let there : IsSelected t c.in-Some.there = subst (FindsSelected t) c.in-Some.is (c.in_ok-there.ensures.found tells) in
    let own = subst (IsSelected b) c.in-Some-V1.field-0-is (subst (FindsSelected b) c.in-Some-V1.is (c.in_ok-header.ensures.found source)) in
    of_luks1 b t c.in-Some.there own.0 there

pub returns-in-None-clause-stands : goal.returns-in-None-clause-stands
returns-in-None-clause-stands g c = λ source tells.
    let b : List ℕ = g.B.Device.bytes c.args.backup.now in
    let t : List ℕ = g.T.Device.bytes c.args.target.now in
    let there : IsSelected t c.in-Some.there = subst (FindsSelected t) c.in-Some.is (c.in_ok-there.ensures.found tells) in
    of_nothing b t c.in-Some.there (subst (FindsSelected b) c.in-None.is (c.in_ok-header.ensures.found source)) there
