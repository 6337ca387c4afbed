use Rattle.std.proofs.Common.{◌≡◌, ℕ, List, sym, subst, ◌∙◌}
use Rattle.std.proofs.lemmas.Bool.{false≢true}
use Rattle.luks2_header.specs.Selection.{IsSelected}
use Rattle.luks2_header.specs.declared.selection.Selected.{Selected}
use Rattle.luks_keeping.specs.OtherHeaders.{selected_uuid}
use Rattle.luks_wide_keeping.proofs.StandingFacts.{another, luks1_progressed, luks2_progressed}
use Rattle.luks_wide_keeping.proofs.standing.standing_beside.Goals as goal

pub returns-then-not-has_uuid-clause-stands : goal.returns-then-not-has_uuid-clause-stands
returns-then-not-has_uuid-clause-stands g c = λ source tells copies own there.
    another (g.B.Device.bytes c.args.backup.now) (g.T.Device.bytes c.args.target.now) c.args.here.now copies c.args.there.now own there
    (λ same. false≢true (sym c.if-not-has_uuid.true ∙ c.has_uuid.ensures.1 same))

pub returns-in-V1-clause-stands : goal.returns-in-V1-clause-stands
returns-in-V1-clause-stands g c = λ source tells copies own there.
    let t : List ℕ = g.T.Device.bytes c.args.target.now in
    luks1_progressed (g.B.Device.bytes c.args.backup.now) t c.args.here.now copies c.in-V1.field-0 own (subst (IsSelected t) c.in-V1.is there)
    (subst (λ (s : Selected). selected_uuid s ≡ c.args.here.now.uuid) c.in-V1.is (c.has_uuid.ensures.0 c.if-not-has_uuid.false))

pub returns-else-branch-clause-stands : goal.returns-else-branch-clause-stands
returns-else-branch-clause-stands g c = λ source tells copies own there.
    let t : List ℕ = g.T.Device.bytes c.args.target.now in
    luks2_progressed (g.B.Device.bytes c.args.backup.now) t c.args.here.now c.in-V2.header copies c.in-V2.copies own (subst (IsSelected t) c.in-V2.is there)
    (subst (λ (s : Selected). selected_uuid s ≡ c.args.here.now.uuid) c.in-V2.is (c.has_uuid.ensures.0 c.if-not-has_uuid.false))
    (λ x. false≢true (sym c.if-branch.false ∙ (c.in_ok-is_same_metadata-in-V2.ensures.told source tells).1 x))
