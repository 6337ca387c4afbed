use Rattle.std.proofs.Common.{inr, refl, sym, subst, ap, ◌∙◌}
use Rattle.luks_area.specs.Device.{count_after}
use Rattle.luks_reading.specs.Failures.{is_read_failure}
use Rattle.luks_wide_reading.specs.Faults.{is_wide_read_failure}
use Rattle.luks_wide_reading.specs.Headers.{IsWideHeader, IsWideUnread}
use Rattle.luks_commands.proofs.NotUnderway.{read_narrow}
use Rattle.luks_keeping_commands.specs.Comparing.{IsComparedAnswer}
use Rattle.luks_keeping_commands.specs.TwoFiles.{pair_of, Pair}
use Rattle.luks_keeping_commands.proofs.BackupFacts.{head_other, meta_other}
use Rattle.luks_keeping_commands.proofs.CompareFacts.{compared_narrow, underway_after}
use Rattle.luks_keeping_commands.proofs.Lifted.{after_source, turned}
use Rattle.luks_keeping_commands.proofs.compare.compare_wide.Goals as goal

pub returns-in-Ok-Underway-clause-answers : goal.returns-in-Ok-Underway-clause-answers
returns-in-Ok-Underway-clause-answers g c = inr (
    underway_after g.D.Device.tells _ _
    (after_source g.D.Device.tells g.D.Device.size g.D.Device.bytes g.D.Device.failed c.args.backup.now c.read_wide_header.new.device c.compare_copy.new.backup
    c.args.volume.now c.compare_copy.new.volume c.in-Ok-Underway.ensures.unchanged.same c.in-Ok-Underway.ensures.count)
    _ c.compare_copy.ensures.answers
    )

pub returns-in-Ok-Narrow-clause-answers : goal.returns-in-Ok-Narrow-clause-answers
returns-in-Ok-Narrow-clause-answers g c =
    let v = g.D.Device.bytes c.args.backup.now in
    let d : Pair = pair_of g.D.Device.size g.D.Device.bytes g.D.Device.failed c.args.backup.now c.read_wide_header.new.device c.args.volume.now c.args.volume.now in
    subst (IsComparedAnswer g.D.Device.tells c.args.comparing.now.payload d) (sym c.refused_backup.ensures)
    (compared_narrow g.D.Device.tells c.args.comparing.now.payload d c.args.fault (c.in-Ok-Narrow.ensures.count, refl) c.requires.refused
    (λ told u. read_narrow v c.in-Ok-Narrow.field-0-0 (subst (IsWideHeader v) c.in-Ok-Narrow.field-0-is (c.in-Ok-Narrow.ensures.read told)) u))

pub returns-in-Err-Read-Head-clause-answers : goal.returns-in-Err-Read-Head-clause-answers
returns-in-Err-Read-Head-clause-answers g c =
    let v = g.D.Device.bytes c.args.backup.now in
    let d : Pair = pair_of g.D.Device.size g.D.Device.bytes g.D.Device.failed c.args.backup.now c.read_wide_header.new.device c.args.volume.now c.args.volume.now in
    let inner = turned {b = c.in-Err-Read-Head.field-0-0} c.in-Err-Read-Head.field-0-0-is (rw c.in-Err-Read-Head.field-0-is refl) in
    let counted = c.in-Err-Read-Head.ensures.count ∙ ap (λ f. count_after (is_wide_read_failure f) (g.D.Device.failed c.args.backup.now)) c.in-Err-Read-Head.field-0-is
    ∙ ap (λ f. count_after (is_read_failure f) (g.D.Device.failed c.args.backup.now)) inner in
    subst (IsComparedAnswer g.D.Device.tells c.args.comparing.now.payload d) (sym c.refused_backup-in-Err-Read-Head.ensures)
    (compared_narrow g.D.Device.tells c.args.comparing.now.payload d c.args.fault (counted, refl) c.requires.refused
    (λ told u. head_other v _ _ inner (subst (IsWideUnread v) c.in-Err-Read-Head.field-0-is (c.in-Err-Read-Head.ensures.refused told)) u))

pub returns-in-Err-Read-Meta-clause-answers : goal.returns-in-Err-Read-Meta-clause-answers
returns-in-Err-Read-Meta-clause-answers g c =
    let v = g.D.Device.bytes c.args.backup.now in
    let d : Pair = pair_of g.D.Device.size g.D.Device.bytes g.D.Device.failed c.args.backup.now c.read_wide_header.new.device c.args.volume.now c.args.volume.now in
    let inner = turned {b = c.in-Err-Read-Meta.field-0-0} c.in-Err-Read-Meta.field-0-0-is (rw c.in-Err-Read-Meta.field-0-is refl) in
    let counted = c.in-Err-Read-Meta.ensures.count ∙ ap (λ f. count_after (is_wide_read_failure f) (g.D.Device.failed c.args.backup.now)) c.in-Err-Read-Meta.field-0-is
    ∙ ap (λ f. count_after (is_read_failure f) (g.D.Device.failed c.args.backup.now)) inner in
    subst (IsComparedAnswer g.D.Device.tells c.args.comparing.now.payload d) (sym c.refused_backup-in-Err-Read-Meta.ensures)
    (compared_narrow g.D.Device.tells c.args.comparing.now.payload d c.args.fault (counted, refl) c.requires.refused
    (λ told u. meta_other v _ _ inner (subst (IsWideUnread v) c.in-Err-Read-Meta.field-0-is (c.in-Err-Read-Meta.ensures.refused told)) u))
