-- The first fault of the fields before the keyslots is the keyslot's first refusal.
use Rattle.std.proofs.lemmas.Result.{err_from_is_err_and}
use Rattle.luks_reading.proofs.Luks1Refusals.{common_refused}
use Rattle.luks_reading.proofs.opening.open_luks1.Goals as goal

pub returns-in_err-common-clause-refused : goal.returns-in_err-common-clause-refused
returns-in_err-common-clause-refused g c =
    let p = err_from_is_err_and c.from_residual.result c.from_residual.ensures.1 in
    rw (p.1, p.2)
    (λ own. common_refused c.args.older c.args.header.now (g.D.Device.size c.args.device.now) c.args.n c.in_err-common.field-0.0 c.in_err-common.ensures.fault)
