use Rattle.std.proofs.Common.{sym, subst}
use Rattle.luks_reading.specs.Header.{IsHeader}
use Rattle.luks_commands.specs.OpenAnswers.{IsOneAnswer}
use Rattle.luks_commands.proofs.OpenFacts.{answers_one}
use Rattle.luks_commands.proofs.open.open_one.Goals as goal

pub returns-clause-answers : goal.returns-clause-answers
returns-clause-answers g c =
    let v = g.D.Device.bytes c.args.device.now in
    let trial = c.args.trial.now in
    subst (IsOneAnswer (g.D.Device.tells × IsHeader v trial.header.now) trial.allowed v c.args.n trial.passphrase.now _ _) (sym c.one_answer.ensures)
    (answers_one (g.D.Device.tells × IsHeader v trial.header.now) trial.allowed v c.args.n trial.passphrase.now _ _ c.try_one-opened.result
    c.try_one-opened.ensures.count
    (λ t. c.try_one-opened.ensures.answers.opens t.0 t.1)
    (λ t. c.try_one-opened.ensures.answers.refused t.0 t.1))
