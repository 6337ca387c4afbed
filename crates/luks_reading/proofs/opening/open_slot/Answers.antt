-- A header that isn't read refuses the keyslot; and there is no other answer.
use Rattle.std.proofs.Common.{ℕ, List, subst}
use Rattle.luks_reading.specs.Answer.{TakesMemory}
use Rattle.std.proofs.lemmas.Result.{err_from_is_err_and, IfErr-weaker}
use Rattle.luks2_header.proofs.ChoiceFacts.{choices_agree}
use Rattle.luks_reading.proofs.AllowedMemory.{none_taken}
use Rattle.luks_reading.proofs.KeyslotAnswers.{unread_refused}
use Rattle.luks_reading.proofs.OneAnswer.{agrees, err_agrees}
use Rattle.luks_reading.proofs.VolumeLaws.{one_answer}
use Rattle.luks_reading.proofs.opening.open_slot.Goals as goal

pub returns-in_err-header-clause-refused : goal.returns-in_err-header-clause-refused
returns-in_err-header-clause-refused g c = λ tells.
    let v = g.D.Device.bytes c.args.device.now in
    let p = err_from_is_err_and c.from_residual.result c.from_residual.ensures.1 in
    rw (p.1, p.2)
    (unread_refused c.args.allowed v c.args.n c.args.passphrase.now c.in_err-header.field-0.0 (choices_agree v) (c.in_err-header.ensures.refused tells))

pub returns-in_err-header-clause-only : goal.returns-in_err-header-clause-only
returns-in_err-header-clause-only g c = λ tells a y.
    let v = g.D.Device.bytes c.args.device.now in
    let p = err_from_is_err_and c.from_residual.result c.from_residual.ensures.1 in
    rw (p.1, p.2)
    (err_agrees c.args.allowed v c.args.n c.args.passphrase.now (one_answer c.args.allowed v c.args.n c.args.passphrase.now) _
    (unread_refused c.args.allowed v c.args.n c.args.passphrase.now c.in_err-header.field-0.0 (choices_agree v) (c.in_err-header.ensures.refused tells)) a y)

pub returns-clause-only : goal.returns-clause-only
returns-clause-only g c = λ tells a y.
    let v = g.D.Device.bytes c.args.device.now in
    let is = c.in_ok-header.ensures.read tells in
    let same = c.in_ok-header.ensures.unchanged.same tells in
    agrees c.args.allowed v c.args.n c.args.passphrase.now (one_answer c.args.allowed v c.args.n c.args.passphrase.now) c.open_header_slot.result
    (rw same at (c.open_header_slot.ensures.answers.opens tells (rw same is))) (rw same at (c.open_header_slot.ensures.answers.refused tells (rw same is))) a y

pub returns-clause-memory : goal.returns-clause-memory
returns-clause-memory g c = λ tells none.
    let v = g.D.Device.bytes c.args.device.now in
    let is = c.in_ok-header.ensures.read tells in
    let same = c.in_ok-header.ensures.unchanged.same tells in
    IfErr-weaker c.open_header_slot.result _ _ (λ fault takes e. none_taken c.args.allowed v c.args.n (subst (λ (w : List ℕ). TakesMemory c.args.allowed w c.args.n) same (takes e)) none)
    (c.open_header_slot.ensures.answers.memory tells (rw same is))
