-- What a header that was read gives is what the volume gives; a header that isn't read refuses it.
use Rattle.std.proofs.Common.{sym, ◌∙◌}
use Rattle.std.proofs.lemmas.Result.{err_from_is_err_and, IfErr-weaker}
use Rattle.luks_reading.specs.Conversions.{unread_checked}
use Rattle.luks2_header.proofs.ChoiceFacts.{choices_agree}
use Rattle.luks_reading.proofs.CheckFacts.{first_refused, on_ok, outside, outside_result, unread_refused}
use Rattle.luks_reading.proofs.VolumeLaws.{well_formed_faultless, well_formed_fits}
use Rattle.luks_reading.proofs.checking.check.Goals as goal

pub returns-in_err-header-clause-refused : goal.returns-in_err-header-clause-refused
returns-in_err-header-clause-refused g c = λ tells.
    let p = err_from_is_err_and c.from_residual.result c.from_residual.ensures.1 in
    rw (p.1, p.2) (unread_refused choices_agree _ c.args.payload c.in_err-header.field-0.0 (c.in_err-header.ensures.refused tells))

pub returns-in_err-header-clause-only : goal.returns-in_err-header-clause-only
returns-in_err-header-clause-only g c = λ tells well.
    let v = g.D.Device.bytes c.args.device.now in
    let p = err_from_is_err_and c.from_residual.result c.from_residual.ensures.1 in
    rw (p.1, p.2)
    (outside v c.args.payload (unread_checked c.in_err-header.field-0.0) (well_formed_faultless v c.args.payload well)
    (unread_refused choices_agree v c.args.payload c.in_err-header.field-0.0 (c.in_err-header.ensures.refused tells)))

pub returns-clause-refused : goal.returns-clause-refused
returns-clause-refused g c = λ tells.
    let v = g.D.Device.bytes c.args.device.now in
    let long = g.met.D.Device.sized c.args.device.now tells ∙ sym c.in_ok-header.ensures.unchanged.size ∙ sym c.len.ensures in
    IfErr-weaker c.check_header.result _ _ (first_refused v c.args.payload) (c.check_header.ensures.refused v (c.in_ok-header.ensures.read tells) long)

pub returns-clause-only : goal.returns-clause-only
returns-clause-only g c = λ tells well.
    let v = g.D.Device.bytes c.args.device.now in
    outside_result v c.args.payload c.check_header.result (well_formed_faultless v c.args.payload well) (returns-clause-refused g c tells)

pub returns-clause-fits_and_resolves : goal.returns-clause-fits_and_resolves
returns-clause-fits_and_resolves g c = λ tells.
    let v = g.D.Device.bytes c.args.device.now in
    let long = g.met.D.Device.sized c.args.device.now tells ∙ sym c.in_ok-header.ensures.unchanged.size ∙ sym c.len.ensures in
    on_ok _ (well_formed_fits v c.args.payload) (c.check_header.ensures.accepted v (c.in_ok-header.ensures.read tells) long)
