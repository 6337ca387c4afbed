-- A header that isn't read refuses the edit; what the header tells is told of the volume.
use Rattle.std.proofs.Common.{sym, ◌∙◌}
use Rattle.std.proofs.lemmas.Result.{err_from_is_err_and}
use Rattle.luks_volume.proofs.NeedFacts.{unread_without_memory}
use Rattle.luks_volume.proofs.needing.needed.Goals as goal

pub returns-in_err-header-clause-tells : goal.returns-in_err-header-clause-tells
returns-in_err-header-clause-tells g c = λ tells.
    let p = err_from_is_err_and c.from_residual.result c.from_residual.ensures.1 in
    rw (p.1, p.2) (c.in_err-header.ensures.untold tells c.args.payload c.args.edit.now)

pub returns-in_err-header-clause-memory : goal.returns-in_err-header-clause-memory
returns-in_err-header-clause-memory g c = λ tells free.
    let v = g.D.Device.bytes c.args.device.now in
    let p = err_from_is_err_and c.from_residual.result c.from_residual.ensures.1 in
    rw (p.1, p.2) (unread_without_memory v c.args.payload c.args.edit.now free c.in_err-header.field-0.0 (c.in_err-header.ensures.refused tells c.args.payload))

pub returns-clause-tells : goal.returns-clause-tells
returns-clause-tells g c = λ tells.
    let v = g.D.Device.bytes c.args.device.now in
    let long = g.met.D.Device.sized c.args.device.now tells ∙ sym c.in_ok-header.ensures.unchanged.size ∙ sym c.len.ensures in
    c.needed_of_header.ensures.tells v (c.in_ok-header.ensures.read tells) long
