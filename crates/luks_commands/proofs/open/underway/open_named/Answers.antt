use Rattle.std.proofs.Common.{sym, subst}
use Rattle.luks_wide_reading.specs.Headers.{IsUnderwayCopy}
use Rattle.luks_commands.specs.OpenAnswers.{IsOneUnderway}
use Rattle.luks_commands.proofs.UnderwayOpening.{refused_underway}
use Rattle.luks_commands.proofs.open.underway.open_named.Goals as goal

pub returns-in-Err-clause-answers : goal.returns-in-Err-clause-answers
returns-in-Err-clause-answers g c =
    let v = g.D.Device.bytes c.args.device.now in
    let trial = c.args.trial.now in
    subst (IsOneUnderway (g.D.Device.tells × IsUnderwayCopy v trial.copy.now) trial.allowed v c.args.n trial.passphrase.now _ _) (sym c.refused_keyslot.ensures)
    (refused_underway g.D.Device.tells (g.D.Device.size c.args.device.now) v trial.copy.now trial.allowed c.args.n trial.passphrase.now _ _ c.in-Err.fault
    (λ tells. sym (g.met.D.Device.sized c.args.device.now tells)) c.in-Err.ensures.count c.in-Err.ensures.answers)
