use Rattle.std.proofs.Common.{false, inl, inr, refl, sym, subst, ap, ◌∙◌}
use Rattle.luks_area.specs.Device.{count_after}
use Rattle.luks_reading.specs.declared.check_fault.CheckFault.TheVariants.{Meta}
use Rattle.luks_reading.specs.Failures.{is_read_failure}
use Rattle.luks_wide_reading.specs.Faults.{is_wide_read_failure}
use Rattle.luks_wide_reading.specs.Headers.{IsWideHeader, IsWideUnread}
use Rattle.luks_commands.proofs.NotUnderway.{read_narrow}
use Rattle.luks_keeping_commands.specs.BackingUp.{IsUnmadeAnswer}
use Rattle.luks_keeping_commands.proofs.BackupFacts.{unkept_fault, unmade_file_after, unmade_refused, head_other, meta_other}
use Rattle.luks_keeping_commands.proofs.Lifted.{turned}
use Rattle.luks_keeping_commands.proofs.backup.without_file_wide.Goals as goal

pub returns-in-Ok-clause-answers : goal.returns-in-Ok-clause-answers
returns-in-Ok-clause-answers g c =
    let v = g.D.Device.bytes c.args.volume.now in
    let w = g.D.Device.bytes c.read_wide_header.new.device in
    let n = g.D.Device.failed c.args.volume.now in
    let k = g.D.Device.failed c.read_wide_header.new.device in
    unmade_file_after g.D.Device.tells c.args.backing_up.now.payload c.args.missed v w n k k c.in-Ok-Underway.ensures.unchanged.same c.in-Ok-Underway.ensures.count
    c.unread.result (inr (inr (refl, c.in-Ok.ensures.faultless, c.unread.ensures.answer)))

pub returns-in-Ok-Underway-clause-answers : goal.returns-in-Ok-Underway-clause-answers
returns-in-Ok-Underway-clause-answers g c =
    let v = g.D.Device.bytes c.args.volume.now in
    let w = g.D.Device.bytes c.read_wide_header.new.device in
    let n = g.D.Device.failed c.args.volume.now in
    let k = g.D.Device.failed c.read_wide_header.new.device in
    subst (IsUnmadeAnswer false g.D.Device.tells c.args.backing_up.now.payload v n k c.args.missed) (sym c.from.ensures)
    (unmade_file_after g.D.Device.tells c.args.backing_up.now.payload c.args.missed v w n k k c.in-Ok-Underway.ensures.unchanged.same c.in-Ok-Underway.ensures.count
    _ (inr (inl (unkept_fault g.D.Device.tells w k c.in-Err.fault c.in-Err.ensures.own c.in-Err.ensures.no_memory
    c.in-Err.ensures.fault))))

pub returns-in-Ok-Narrow-clause-answers : goal.returns-in-Ok-Narrow-clause-answers
returns-in-Ok-Narrow-clause-answers g c =
    let v = g.D.Device.bytes c.args.volume.now in
    let n = g.D.Device.failed c.args.volume.now in
    let k = g.D.Device.failed c.read_wide_header.new.device in
    let payload = c.args.backing_up.now.payload in
    subst (IsUnmadeAnswer false g.D.Device.tells payload v n k c.args.missed) (sym c.narrow_answer.ensures)
    (unmade_refused g.D.Device.tells payload v n k c.args.missed (Meta c.args.fault) c.in-Ok-Narrow.ensures.count c.requires.refused
    (λ told u. read_narrow v c.in-Ok-Narrow.field-0-0 (subst (IsWideHeader v) c.in-Ok-Narrow.field-0-is (c.in-Ok-Narrow.ensures.read told)) u))

pub returns-in-Err-Underway-clause-answers : goal.returns-in-Err-Underway-clause-answers
returns-in-Err-Underway-clause-answers g c =
    let v = g.D.Device.bytes c.args.volume.now in
    let n = g.D.Device.failed c.args.volume.now in
    let counted = c.in-Err-Underway.ensures.count ∙ ap (λ f. count_after (is_wide_read_failure f) n) c.in-Err-Underway.field-0-is in
    rw (c.underway_answer.ensures, c.in-Err-Underway.field-0-is)
    (inr (inl (counted, λ told. (c.in-Err-Underway.field-0-1, subst (IsWideUnread v) c.in-Err-Underway.field-0-is (c.in-Err-Underway.ensures.refused told)))))

pub returns-in-Err-Read-Head-clause-answers : goal.returns-in-Err-Read-Head-clause-answers
returns-in-Err-Read-Head-clause-answers g c =
    let v = g.D.Device.bytes c.args.volume.now in
    let n = g.D.Device.failed c.args.volume.now in
    let k = g.D.Device.failed c.read_wide_header.new.device in
    let payload = c.args.backing_up.now.payload in
    let inner = turned {b = c.in-Err-Read-Head.field-0-0} c.in-Err-Read-Head.field-0-0-is (rw c.in-Err-Read-Head.field-0-is refl) in
    let counted = c.in-Err-Read-Head.ensures.count ∙ ap (λ f. count_after (is_wide_read_failure f) n) c.in-Err-Read-Head.field-0-is
    ∙ ap (λ f. count_after (is_read_failure f) n) inner in
    subst (IsUnmadeAnswer false g.D.Device.tells payload v n k c.args.missed) (sym c.narrow_answer-in-Err-Read-Head.ensures)
    (unmade_refused g.D.Device.tells payload v n k c.args.missed (Meta c.args.fault) counted c.requires.refused
    (λ told u. head_other v _ _ inner (subst (IsWideUnread v) c.in-Err-Read-Head.field-0-is (c.in-Err-Read-Head.ensures.refused told)) u))

pub returns-in-Err-Read-Meta-clause-answers : goal.returns-in-Err-Read-Meta-clause-answers
returns-in-Err-Read-Meta-clause-answers g c =
    let v = g.D.Device.bytes c.args.volume.now in
    let n = g.D.Device.failed c.args.volume.now in
    let k = g.D.Device.failed c.read_wide_header.new.device in
    let payload = c.args.backing_up.now.payload in
    let inner = turned {b = c.in-Err-Read-Meta.field-0-0} c.in-Err-Read-Meta.field-0-0-is (rw c.in-Err-Read-Meta.field-0-is refl) in
    let counted = c.in-Err-Read-Meta.ensures.count ∙ ap (λ f. count_after (is_wide_read_failure f) n) c.in-Err-Read-Meta.field-0-is
    ∙ ap (λ f. count_after (is_read_failure f) n) inner in
    subst (IsUnmadeAnswer false g.D.Device.tells payload v n k c.args.missed) (sym c.narrow_answer-in-Err-Read-Meta.ensures)
    (unmade_refused g.D.Device.tells payload v n k c.args.missed (Meta c.args.fault) counted c.requires.refused
    (λ told u. meta_other v _ _ inner (subst (IsWideUnread v) c.in-Err-Read-Meta.field-0-is (c.in-Err-Read-Meta.ensures.refused told)) u))
