-- A header that isn't read locks the volume; and there is no other answer.
use Rattle.std.proofs.Common.{ℕ, List, subst}
use Rattle.std.proofs.lemmas.Result.{err_from_is_err_and, IfErr-weaker}
use Rattle.luks_reading.specs.Answer.{TakesMemory}
use Rattle.luks2_header.proofs.ChoiceFacts.{choices_agree}
use Rattle.luks_reading.proofs.AllowedMemory.{none_taken}
use Rattle.luks_reading.proofs.OneUnlocking.{agrees, err_agrees}
use Rattle.luks_reading.proofs.VolumeAnswers.{unread_locked}
use Rattle.luks_reading.proofs.unlocking.unlock.Goals as goal

pub returns-in_err-header-clause-refused : goal.returns-in_err-header-clause-refused
returns-in_err-header-clause-refused g c = λ tells.
    let v = g.D.Device.bytes c.args.device.now in
    let p = err_from_is_err_and c.from_residual.result c.from_residual.ensures.1 in
    rw (p.1, p.2) (unread_locked v c.in_err-header.field-0.0 (choices_agree v) (c.in_err-header.ensures.refused tells))

pub returns-in_err-header-clause-only : goal.returns-in_err-header-clause-only
returns-in_err-header-clause-only g c = λ tells a y.
    let v = g.D.Device.bytes c.args.device.now in
    let p = err_from_is_err_and c.from_residual.result c.from_residual.ensures.1 in
    rw (p.1, p.2)
    (err_agrees c.args.allowed v c.args.passphrase.now _
    (unread_locked v c.in_err-header.field-0.0 (choices_agree v) (c.in_err-header.ensures.refused tells)) a y)

pub returns-clause-only : goal.returns-clause-only
returns-clause-only g c = λ tells a y.
    let v = g.D.Device.bytes c.args.device.now in
    let is = c.in_ok-header.ensures.read tells in
    let same = c.in_ok-header.ensures.unchanged.same tells in
    agrees c.args.allowed v c.args.passphrase.now c.unlock_header.result
    (rw same at (c.unlock_header.ensures.answers.unlocks tells (rw same is))) (rw same at (c.unlock_header.ensures.answers.refused tells (rw same is))) a y

pub returns-clause-memory : goal.returns-clause-memory
returns-clause-memory g c = λ tells none.
    let v = g.D.Device.bytes c.args.device.now in
    let is = c.in_ok-header.ensures.read tells in
    let same = c.in_ok-header.ensures.unchanged.same tells in
    IfErr-weaker c.unlock_header.result _ _ (λ fault takes e.
    let x = takes e in none_taken c.args.allowed v x.0 (subst (λ (w : List ℕ). TakesMemory c.args.allowed w x.0) same x.1) none)
    (c.unlock_header.ensures.answers.memory tells (rw same is))
