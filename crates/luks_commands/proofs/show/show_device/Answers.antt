use Rattle.std.proofs.Common.{inl, inr, refl, subst, sym, ap, ◌∙◌}
use Rattle.luks_area.specs.Device.{count_after}
use Rattle.luks_wide_reading.specs.Faults.{is_wide_read_failure}
use Rattle.luks_wide_reading.specs.Headers.{IsWideHeader, IsWideUnread}
use Rattle.luks_commands.specs.Answer.{check_fault_answer}
use Rattle.luks_commands.specs.ShowAnswers.{IsShownAs}
use Rattle.luks_commands.proofs.ShowFacts.{shows_header, shows_unread}
use Rattle.luks_commands.proofs.show.show_device.Goals as goal
use Rattle.luks_commands.proofs.show.show_device.Goals.{in-Ok-Narrow, in-Err-Read}

pub returns-clause-answers : goal.returns-clause-answers
returns-clause-answers g c =
    let v = g.D.Device.bytes c.args.device.now in
    elim c.match-read_wide_header.branch [
      | in-Ok-Narrow w ↦ shows_header c.args.form c.len-2.result g.D.Device.tells v _ _ w.in-Ok-Narrow.header _ _
          (λ tells. g.met.D.Device.sized c.args.device.now tells ∙ sym w.in-Ok-Narrow.ensures.unchanged.size ∙ sym c.len-2.ensures)
          w.in-Ok-Narrow.ensures.count
          (λ tells. subst (IsWideHeader v) w.in-Ok-Narrow.field-0-is (w.in-Ok-Narrow.ensures.read tells))
          w.listed-answer.ensures.answers
          (subst (λ x. IsShownAs c.args.form c.len-2.result x c.shown_as.result) w.answer-is c.shown_as.ensures.answers)
      | in-Err-Read w ↦ shows_unread c.args.form c.len-2.result g.D.Device.tells v _ _ w.in-Err-Read.fault _
          (λ tells. g.met.D.Device.sized c.args.device.now tells ∙ sym w.in-Err-Read.ensures.unchanged.size ∙ sym c.len-2.ensures)
          (w.in-Err-Read.ensures.count ∙ ap (λ f. count_after (is_wide_read_failure f) (g.D.Device.failed c.args.device.now)) w.in-Err-Read.field-0-is)
          (λ tells. subst (IsWideUnread v) w.in-Err-Read.field-0-is (w.in-Err-Read.ensures.refused tells))
          (subst (λ x. IsShownAs c.args.form c.len-2.result x c.shown_as.result) (w.answer-is ∙ w.refused-answer.ensures.answer ∙ ap check_fault_answer w.from.ensures) c.shown_as.ensures.answers)
    ]

pub returns-in-Ok-Underway-clause-answers : goal.returns-in-Ok-Underway-clause-answers
returns-in-Ok-Underway-clause-answers g c = inr (
  c.in-Ok-Underway.ensures.count,
  inl (record {
    copy = c.in-Ok-Underway.copy;
    total = c.len.result;
    shown = c.show_underway.ensures.answers;
    is = λ tells. subst (IsWideHeader (g.D.Device.bytes c.args.device.now)) c.in-Ok-Underway.field-0-is (c.in-Ok-Underway.ensures.read tells);
    long = λ tells. g.met.D.Device.sized c.args.device.now tells ∙ sym c.in-Ok-Underway.ensures.unchanged.size ∙ sym c.len.ensures;
  }),
)

pub returns-in-Err-Underway-clause-answers : goal.returns-in-Err-Underway-clause-answers
returns-in-Err-Underway-clause-answers g c = inr (
  c.in-Err-Underway.ensures.count ∙ ap (λ f. count_after (is_wide_read_failure f) (g.D.Device.failed c.args.device.now)) c.in-Err-Underway.field-0-is,
  inr (record {
    fault = c.in-Err-Underway.fault;
    is = refl;
    first = λ tells. (_, subst (IsWideUnread (g.D.Device.bytes c.args.device.now)) c.in-Err-Underway.field-0-is (c.in-Err-Underway.ensures.refused tells));
  }),
)
