use Rattle.std.proofs.Common.{false, inr, refl, sym, subst, ap, ◌∙◌}
use Rattle.luks_area.specs.Device.{count_after}
use Rattle.luks_reading.specs.Failures.{is_read_failure}
use Rattle.luks_wide_reading.specs.Faults.{is_wide_read_failure}
use Rattle.luks_reading.specs.declared.check_fault.CheckFault.TheVariants.{Meta}
use Rattle.luks_wide_reading.specs.Headers.{IsWideHeader, IsWideUnread}
use Rattle.luks_commands.proofs.NotUnderway.{read_narrow}
use Rattle.luks_keeping_commands.specs.BackingUp.{IsMadeAnswer}
use Rattle.luks_keeping_commands.specs.TwoFiles.{pair_of, Pair}
use Rattle.luks_keeping_commands.proofs.BackupFacts.{made_refused, underway_after, head_other, meta_other}
use Rattle.luks_keeping_commands.proofs.Lifted.{after_source, turned}
use Rattle.luks_keeping_commands.proofs.backup.back_up_wide.Goals as goal

pub returns-in-Ok-Underway-clause-answers : goal.returns-in-Ok-Underway-clause-answers
returns-in-Ok-Underway-clause-answers g c = inr (
    underway_after g.D.Device.tells _ _
    (after_source g.D.Device.tells g.D.Device.size g.D.Device.bytes g.D.Device.failed c.args.volume.now c.read_wide_header.new.device c.back_up_copy.new.volume
    c.args.target.now c.back_up_copy.new.target c.in-Ok-Underway.ensures.unchanged.same c.in-Ok-Underway.ensures.count)
    _ c.back_up_copy.ensures.answers
    )

pub returns-in-Ok-Narrow-clause-answers : goal.returns-in-Ok-Narrow-clause-answers
returns-in-Ok-Narrow-clause-answers g c =
    let v = g.D.Device.bytes c.args.volume.now in
    let d : Pair = pair_of g.D.Device.size g.D.Device.bytes g.D.Device.failed c.args.volume.now c.read_wide_header.new.device c.args.target.now c.args.target.now in
    subst (IsMadeAnswer false g.D.Device.tells c.args.backing_up.now.payload d) (sym c.narrow_answer.ensures)
    (made_refused g.D.Device.tells c.args.backing_up.now.payload d (Meta c.args.fault) (c.in-Ok-Narrow.ensures.count, refl) (λ told. refl) c.requires.refused
    (λ told u. read_narrow v c.in-Ok-Narrow.field-0-0 (subst (IsWideHeader v) c.in-Ok-Narrow.field-0-is (c.in-Ok-Narrow.ensures.read told)) u))

pub returns-in-Err-Read-Head-clause-answers : goal.returns-in-Err-Read-Head-clause-answers
returns-in-Err-Read-Head-clause-answers g c =
    let v = g.D.Device.bytes c.args.volume.now in
    let d : Pair = pair_of g.D.Device.size g.D.Device.bytes g.D.Device.failed c.args.volume.now c.read_wide_header.new.device c.args.target.now c.args.target.now in
    let inner = turned {b = c.in-Err-Read-Head.field-0-0} c.in-Err-Read-Head.field-0-0-is refl in
    let counted = c.in-Err-Read-Head.ensures.count ∙ ap (λ f. count_after (is_wide_read_failure f) (g.D.Device.failed c.args.volume.now)) c.in-Err-Read-Head.field-0-is
    ∙ ap (λ f. count_after (is_read_failure f) (g.D.Device.failed c.args.volume.now)) inner in
    subst (IsMadeAnswer false g.D.Device.tells c.args.backing_up.now.payload d) (sym c.narrow_answer-in-Err-Read-Head.ensures)
    (made_refused g.D.Device.tells c.args.backing_up.now.payload d (Meta c.args.fault) (counted, refl) (λ told. refl) c.requires.refused
    (λ told u. head_other v _ _ inner (subst (IsWideUnread v) c.in-Err-Read-Head.field-0-is (c.in-Err-Read-Head.ensures.refused told)) u))

pub returns-in-Err-Read-Meta-clause-answers : goal.returns-in-Err-Read-Meta-clause-answers
returns-in-Err-Read-Meta-clause-answers g c =
    let v = g.D.Device.bytes c.args.volume.now in
    let d : Pair = pair_of g.D.Device.size g.D.Device.bytes g.D.Device.failed c.args.volume.now c.read_wide_header.new.device c.args.target.now c.args.target.now in
    let inner = turned {b = c.in-Err-Read-Meta.field-0-0} c.in-Err-Read-Meta.field-0-0-is refl in
    let counted = c.in-Err-Read-Meta.ensures.count ∙ ap (λ f. count_after (is_wide_read_failure f) (g.D.Device.failed c.args.volume.now)) c.in-Err-Read-Meta.field-0-is
    ∙ ap (λ f. count_after (is_read_failure f) (g.D.Device.failed c.args.volume.now)) inner in
    subst (IsMadeAnswer false g.D.Device.tells c.args.backing_up.now.payload d) (sym c.narrow_answer-in-Err-Read-Meta.ensures)
    (made_refused g.D.Device.tells c.args.backing_up.now.payload d (Meta c.args.fault) (counted, refl) (λ told. refl) c.requires.refused
    (λ told u. meta_other v _ _ inner (subst (IsWideUnread v) c.in-Err-Read-Meta.field-0-is (c.in-Err-Read-Meta.ensures.refused told)) u))
