use Rattle.std.proofs.Common.{inr, refl, sym, subst, ap, ◌∙◌}
use Rattle.luks_area.specs.Device.{count_after}
use Rattle.luks_keeping.specs.SameVolume.{HasAnyHeader}
use Rattle.luks_wide_reading.specs.Faults.{is_wide_read_failure}
use Rattle.luks_wide_reading.specs.Headers.{IsWideUnread}
use Rattle.luks_keeping_commands.specs.ComparingUnderway.{IsUnderwayCompared}
use Rattle.luks_keeping_commands.specs.TwoFiles.{pair_of, Pair}
use Rattle.luks_keeping_commands.proofs.CompareFacts.{counts_any, underway_after, unread_fault}
use Rattle.luks_keeping_commands.proofs.Lifted.{after_other}
use Rattle.luks_keeping_commands.proofs.compare.compare_copy.Goals as goal

pub compare_states-requires-clause-counts : goal.compare_states-requires-clause-counts
compare_states-requires-clause-counts g c = λ told.
    subst HasAnyHeader (sym (c.in-Ok.ensures.unchanged.same told)) (counts_any (g.D.Device.bytes c.args.volume.now) _ (c.in-Ok.ensures.read told))

pub returns-in-Ok-clause-answers : goal.returns-in-Ok-clause-answers
returns-in-Ok-clause-answers g c =
    underway_after g.D.Device.tells _ _
    (after_other g.D.Device.tells g.D.Device.size g.D.Device.bytes g.D.Device.failed c.args.backup.now c.compare_states.new.backup
    c.args.volume.now c.read_wide_header.new.device c.compare_states.new.volume c.in-Ok.ensures.unchanged.same c.in-Ok.ensures.unchanged.size c.in-Ok.ensures.count)
    _ c.compare_states.ensures.answers

pub returns-in-Err-Underway-clause-answers : goal.returns-in-Err-Underway-clause-answers
returns-in-Err-Underway-clause-answers g c =
    let d : Pair = pair_of g.D.Device.size g.D.Device.bytes g.D.Device.failed c.args.backup.now c.args.backup.now c.args.volume.now c.read_wide_header.new.device in
    subst (IsUnderwayCompared g.D.Device.tells d) (sym c.underway_answer.ensures) (
      (refl, c.in-Err-Underway.ensures.count ∙ ap (λ f. count_after (is_wide_read_failure f) (g.D.Device.failed c.args.volume.now)) c.in-Err-Underway.field-0-is),
      λ told. inr (_, subst (IsWideUnread (g.D.Device.bytes c.args.volume.now)) c.in-Err-Underway.field-0-is (c.in-Err-Underway.ensures.refused told)),
    )

pub returns-in-Err-Read-clause-answers : goal.returns-in-Err-Read-clause-answers
returns-in-Err-Read-clause-answers g c =
    let d : Pair = pair_of g.D.Device.size g.D.Device.bytes g.D.Device.failed c.args.backup.now c.args.backup.now c.args.volume.now c.read_wide_header.new.device in
    rw (c.refused.ensures.answer, c.from.ensures)
    (unread_fault g.D.Device.tells d c.in-Err-Read.fault refl
    (c.in-Err-Read.ensures.count ∙ ap (λ f. count_after (is_wide_read_failure f) (g.D.Device.failed c.args.volume.now)) c.in-Err-Read.field-0-is)
    (λ told. subst (IsWideUnread (g.D.Device.bytes c.args.volume.now)) c.in-Err-Read.field-0-is (c.in-Err-Read.ensures.refused told)))
