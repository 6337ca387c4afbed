-- A header that isn't read refuses the key.
use Rattle.std.proofs.lemmas.Result.{err_from_is_err_and}
use Rattle.luks_reading.proofs.KeyFacts.{unread_answered}
use Rattle.luks_reading.proofs.matching.match_key.Goals as goal

pub returns-in_err-header-clause-answers : goal.returns-in_err-header-clause-answers
returns-in_err-header-clause-answers g c = λ tells.
    let p = err_from_is_err_and c.from_residual.result c.from_residual.ensures.1 in
    rw (p.1, p.2)
    (unread_answered (g.D.Device.bytes c.args.device.now) c.args.digest c.args.older c.args.key.now c.in_err-header.field-0.0 (c.in_err-header.ensures.refused tells))
