use Rattle.std.proofs.lemmas.Result.{err_from_is_err_and}
use Rattle.luks_slot.proofs.DerivationFacts.{refusal_answered, uncounted}
use Rattle.luks_slot.proofs.sealing.seal_within.Goals as goal

pub returns-in_err-parameters-clause-fault : goal.returns-in_err-parameters-clause-fault
returns-in_err-parameters-clause-fault g c =
    let p = err_from_is_err_and c.from_residual.result c.from_residual.ensures.1 in
    rw (p.1, p.2) (refusal_answered c.args.allowed c.args.plan.now c.in_err-parameters.field-0.0 c.in_err-parameters.ensures.refused)

pub returns-in_err-parameters-clause-count : goal.returns-in_err-parameters-clause-count
returns-in_err-parameters-clause-count g c =
    let p = err_from_is_err_and c.from_residual.result c.from_residual.ensures.1 in
    rw (p.1, p.2) (uncounted c.args.allowed c.args.plan.now c.in_err-parameters.field-0.0 (g.D.Device.failed c.args.device.now) c.in_err-parameters.ensures.refused)
