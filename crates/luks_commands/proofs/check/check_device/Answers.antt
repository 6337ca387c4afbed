-- A header that isn't read refuses the volume; what is judged by one that was read holds of the volume.
use Rattle.std.proofs.Common.{sym, subst, ◌∙◌}
use Rattle.luks2_header.proofs.ChoiceFacts.{choices_agree}
use Rattle.luks_reading.proofs.CheckFacts.{first_refused, outside, unread_refused}
use Rattle.luks_reading.proofs.VolumeLaws.{well_formed_faultless}
use Rattle.luks_commands.specs.Answer.{answer_status}
use Rattle.luks_commands.specs.CheckAnswers.{IsCheckAnswer}
use Rattle.luks_commands.specs.Checked.{EndsCheck}
use Rattle.luks_commands.proofs.CheckFacts.{answers_judged, answers_unread, ends_fault}
use Rattle.luks_commands.proofs.ExitFacts.{ends_accepted}
use Rattle.luks_commands.proofs.check.check_device.Goals as goal

pub returns-in-Err-clause-status : goal.returns-in-Err-clause-status
returns-in-Err-clause-status g c = λ tells.
    let v = g.D.Device.bytes c.args.device.now in
    let refusal = unread_refused choices_agree v c.args.payload c.in-Err.fault (c.in-Err.ensures.refused tells) in
    rw (c.refused.ensures.answer, c.from.ensures)
    (ends_fault v c.args.payload _ (λ well. outside v c.args.payload _ (well_formed_faultless v c.args.payload well) refusal))

pub returns-in-Err-clause-answers : goal.returns-in-Err-clause-answers
returns-in-Err-clause-answers g c =
    let v = g.D.Device.bytes c.args.device.now in
    rw (c.refused.ensures.answer, c.from.ensures)
    (answers_unread g.D.Device.tells v c.args.payload _ _ c.in-Err.fault c.in-Err.ensures.count
    (λ tells. unread_refused choices_agree v c.args.payload c.in-Err.fault (c.in-Err.ensures.refused tells)))

pub returns-in-Ok-check_header-clause-status : goal.returns-in-Ok-check_header-clause-status
returns-in-Ok-check_header-clause-status g c = λ tells.
    let v = g.D.Device.bytes c.args.device.now in
    let is = c.in-Ok.ensures.read tells in
    let long = g.met.D.Device.sized c.args.device.now tells ∙ sym c.in-Ok.ensures.unchanged.size ∙ sym c.len-total.ensures in
    ends_accepted v c.args.payload c.in-Ok-check_header.report.version
    (c.in-Ok-check_header.ensures.accepted v is long) (c.in-Ok-check_header.ensures.report v is long).version

pub returns-in-Ok-check_header-clause-answers : goal.returns-in-Ok-check_header-clause-answers
returns-in-Ok-check_header-clause-answers g c = (
  c.in-Ok.ensures.count,
  λ tells.
      let v = g.D.Device.bytes c.args.device.now in
      let is = c.in-Ok.ensures.read tells in
      let long = g.met.D.Device.sized c.args.device.now tells ∙ sym c.in-Ok.ensures.unchanged.size ∙ sym c.len-total.ensures in
      record {
        formed = c.in-Ok-check_header.ensures.accepted v is long;
        version = (c.in-Ok-check_header.ensures.report v is long).version;
        areas = c.in-Ok-check_header.report.areas;
        listed = (c.in-Ok-check_header.ensures.report v is long).areas;
        counted = sym c.len.ensures;
      },
)

pub returns-clause-status : goal.returns-clause-status
returns-clause-status g c = λ tells.
    let v = g.D.Device.bytes c.args.device.now in
    let is = c.in-Ok.ensures.read tells in
    let long = g.met.D.Device.sized c.args.device.now tells ∙ sym c.in-Ok.ensures.unchanged.size ∙ sym c.len-total.ensures in
    let refusal = first_refused v c.args.payload _ (c.in-Err-check_header.ensures.refused v is long) in
    subst (λ a. EndsCheck v c.args.payload (answer_status a)) (sym c.refused-in-Err-check_header.ensures.answer)
    (ends_fault v c.args.payload c.in-Err-check_header.fault (λ well. outside v c.args.payload _ (well_formed_faultless v c.args.payload well) refusal))

pub returns-clause-answers : goal.returns-clause-answers
returns-clause-answers g c =
    let v = g.D.Device.bytes c.args.device.now in
    subst (IsCheckAnswer g.D.Device.tells v c.args.payload _ _) (sym c.refused-in-Err-check_header.ensures.answer)
    (answers_judged g.D.Device.tells v c.args.payload _ _ c.in-Err-check_header.fault c.in-Ok.ensures.count
    c.in-Err-check_header.ensures.device c.in-Err-check_header.ensures.memory
    (λ tells.
    let long = g.met.D.Device.sized c.args.device.now tells ∙ sym c.in-Ok.ensures.unchanged.size ∙ sym c.len-total.ensures in
    c.in-Err-check_header.ensures.refused v (c.in-Ok.ensures.read tells) long))
