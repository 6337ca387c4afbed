use Rattle.std.proofs.Common.{sym, subst}
use Rattle.luks_reading.specs.Header.{IsHeader}
use Rattle.luks_commands.specs.OpenAnswers.{IsAnyAnswer}
use Rattle.luks_commands.proofs.OpenFacts.{answers_any}
use Rattle.luks_commands.proofs.open.open_any.Goals as goal

pub returns-clause-answers : goal.returns-clause-answers
returns-clause-answers g c =
    let v = g.D.Device.bytes c.args.device.now in
    let trial = c.args.trial.now in
    subst (IsAnyAnswer (g.D.Device.tells × IsHeader v trial.header.now) trial.allowed v trial.passphrase.now _ _) (sym c.any_answer.ensures)
    (answers_any (g.D.Device.tells × IsHeader v trial.header.now) trial.allowed v trial.passphrase.now _ _ c.try_each-opened.result
    c.try_each-opened.ensures.count
    (λ t. c.try_each-opened.ensures.answers.unlocks t.0 t.1)
    (λ t. c.try_each-opened.ensures.answers.refused t.0 t.1))
