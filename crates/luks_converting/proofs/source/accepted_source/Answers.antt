use Rattle.std.proofs.Common.{ℕ, List, IfOk, subst, sym, ◌∙◌}
use Rattle.std.proofs.lemmas.Result.{err_from_is_err_and}
use Rattle.luks2_header.proofs.ChoiceFacts.{choices_agree}
use Rattle.luks_reading.specs.Conversions.{unread_checked}
use Rattle.luks_reading.specs.Header.{IsHeader}
use Rattle.luks_reading.proofs.CheckFacts.{unread_refused}
use Rattle.luks_converting.specs.Accepted.{HasAreasInside}
use Rattle.luks_converting.proofs.AcceptedFacts.{other_of}
use Rattle.luks_converting.proofs.RowFacts.{first_unaccepted, unaccepted_of}
use Rattle.luks_converting.proofs.source.accepted_source.Goals as goal

pub returns-in_err-header-clause-refused : goal.returns-in_err-header-clause-refused
returns-in_err-header-clause-refused g c = λ tells.
    let v : List ℕ = g.D.Device.bytes c.args.source.now in
    let p = err_from_is_err_and c.from_residual.result c.from_residual.ensures.1 in
    rw (p.1, p.2)
    (unaccepted_of v c.args.payload (unread_checked c.in_err-header.field-0.0) (unread_refused choices_agree v c.args.payload c.in_err-header.field-0.0 (c.in_err-header.ensures.refused tells)))

pub returns-in-Luks1-clause-inside : goal.returns-in-Luks1-clause-inside
returns-in-Luks1-clause-inside g c =
    subst (λ (t : ℕ). IfOk c.accepted_header.result (λ h. HasAreasInside h.bytes t)) (c.len-total.ensures ∙ c.in_ok-header.ensures.unchanged.size) c.accepted_header.ensures.inside

pub returns-in-Luks1-clause-header : goal.returns-in-Luks1-clause-header
returns-in-Luks1-clause-header g c = λ tells.
    let v : List ℕ = g.D.Device.bytes c.args.source.now in
    let long = g.met.D.Device.sized c.args.source.now tells ∙ sym c.in_ok-header.ensures.unchanged.size ∙ sym c.len-total.ensures in
    c.accepted_header.ensures.header v (subst (IsHeader v) c.in-Luks1.is (c.in_ok-header.ensures.read tells)) long

pub returns-in-Luks1-clause-refused : goal.returns-in-Luks1-clause-refused
returns-in-Luks1-clause-refused g c = λ tells.
    let v : List ℕ = g.D.Device.bytes c.args.source.now in
    let long = g.met.D.Device.sized c.args.source.now tells ∙ sym c.in_ok-header.ensures.unchanged.size ∙ sym c.len-total.ensures in
    c.accepted_header.ensures.refused v (subst (IsHeader v) c.in-Luks1.is (c.in_ok-header.ensures.read tells)) long

pub returns-in_err-check_header-in-Luks2-clause-refused : goal.returns-in_err-check_header-in-Luks2-clause-refused
returns-in_err-check_header-in-Luks2-clause-refused g c = λ tells.
    let v : List ℕ = g.D.Device.bytes c.args.source.now in
    let long = g.met.D.Device.sized c.args.source.now tells ∙ sym c.in_ok-header.ensures.unchanged.size ∙ sym c.len-total.ensures in
    let p = err_from_is_err_and c.from_residual-in_err-check_header-in-Luks2.result c.from_residual-in_err-check_header-in-Luks2.ensures.1 in
    rw (p.1, p.2)
    (first_unaccepted v c.args.payload c.in_err-check_header-in-Luks2.field-0.0 c.in_err-check_header-in-Luks2.ensures.device c.in_err-check_header-in-Luks2.ensures.memory
    (c.in_err-check_header-in-Luks2.ensures.refused v (c.in_ok-header.ensures.read tells) long))

pub returns-clause-refused : goal.returns-clause-refused
returns-clause-refused g c = λ tells.
    let v : List ℕ = g.D.Device.bytes c.args.source.now in
    let long = g.met.D.Device.sized c.args.source.now tells ∙ sym c.in_ok-header.ensures.unchanged.size ∙ sym c.len-total.ensures in
    let well = c.in_ok-check_header-in-Luks2.ensures.accepted v (c.in_ok-header.ensures.read tells) long in
    other_of v c.args.payload c.in-Luks2.field-0 (subst (IsHeader v) c.in-Luks2.is (c.in_ok-header.ensures.read tells)) well
