use Rattle.std.proofs.Common.{inl, sym, subst, ap, ◌∙◌}
use Rattle.luks_area.specs.Device.{count_after}
use Rattle.luks_reading.specs.Failures.{is_check_failure}
use Rattle.luks_reading.specs.declared.check_fault.CheckFault.TheVariants as check
use Rattle.luks_reading.specs.declared.report.Data.TheVariants.{Elsewhere}
use Rattle.luks_keeping_commands.specs.Restoring.{IsPutBackAnswer, over_of}
use Rattle.luks_keeping_commands.specs.TwoFiles.{pair_of, Pair}
use Rattle.luks_keeping_commands.proofs.Lifted.{after_both}
use Rattle.luks_keeping_commands.proofs.NarrowFacts.{formed_other}
use Rattle.luks_keeping_commands.proofs.RestoreFacts.{answer_after, keeps_after, put_after, put_fault}
use Rattle.luks_keeping_commands.proofs.restore.put_back.Goals as goal

pub returns-in-Ok-accepted_header-clause-answers : goal.returns-in-Ok-accepted_header-clause-answers
returns-in-Ok-accepted_header-clause-answers g c = inl (
  answer_after g.D.Device.tells c.args.restoring.now.payload (over_of c.args.restoring.now) _ _
      (after_both g.D.Device.tells g.D.Device.size g.D.Device.bytes g.D.Device.failed c.args.backup.now c.accepted_header.new.device c.put_over.new.backup
      c.args.volume.now c.outline_there.new.device c.put_over.new.volume
      c.in-Ok-accepted_header.ensures.unchanged.same c.in-Ok-accepted_header.ensures.count
      c.in-Ok.ensures.unchanged.same c.in-Ok.ensures.unchanged.size c.in-Ok.ensures.count)
      _ c.put_over.ensures.answers,
  λ told u. absurd (formed_other (g.D.Device.bytes c.args.backup.now) Elsewhere (c.in-Ok-accepted_header.ensures.formed told) u),
)

pub returns-in-Err-Meta-clause-answers : goal.returns-in-Err-Meta-clause-answers
returns-in-Err-Meta-clause-answers g c =
    put_after g.D.Device.tells c.args.restoring.now _ _
    (after_both g.D.Device.tells g.D.Device.size g.D.Device.bytes g.D.Device.failed c.args.backup.now c.accepted_header.new.device c.put_back_wide.new.backup
    c.args.volume.now c.outline_there.new.device c.put_back_wide.new.volume
    c.in-Err-Meta.ensures.unchanged.same
    (c.in-Err-Meta.ensures.count ∙ ap (λ f. count_after (is_check_failure f) (g.D.Device.failed c.args.backup.now)) c.in-Err-Meta.field-0-is)
    c.in-Ok.ensures.unchanged.same c.in-Ok.ensures.unchanged.size c.in-Ok.ensures.count)
    _ c.put_back_wide.ensures.answers

pub returns-in-Err-Head-clause-answers : goal.returns-in-Err-Head-clause-answers
returns-in-Err-Head-clause-answers g c =
    let d : Pair = pair_of g.D.Device.size g.D.Device.bytes g.D.Device.failed c.args.backup.now c.accepted_header.new.device c.args.volume.now c.outline_there.new.device in
    subst (IsPutBackAnswer g.D.Device.tells c.args.restoring.now d) (sym (rw c.in-Err-Head.field-0-is at c.refused_backup.ensures))
    (put_fault g.D.Device.tells c.args.restoring.now d _ (check.Head c.in-Err-Head.fault) c.in-Err-Head.field-0-is c.in-Err-Head.ensures.count c.in-Ok.ensures.count c.in-Ok.ensures.unchanged.same
    c.in-Err-Head.ensures.refused (λ m e. cc))

pub returns-in-Err-Area-clause-answers : goal.returns-in-Err-Area-clause-answers
returns-in-Err-Area-clause-answers g c =
    let d : Pair = pair_of g.D.Device.size g.D.Device.bytes g.D.Device.failed c.args.backup.now c.accepted_header.new.device c.args.volume.now c.outline_there.new.device in
    subst (IsPutBackAnswer g.D.Device.tells c.args.restoring.now d) (sym (rw c.in-Err-Area.field-0-is at c.refused_backup-in-Err-Area.ensures))
    (put_fault g.D.Device.tells c.args.restoring.now d _ (check.Area c.in-Err-Area.fault) c.in-Err-Area.field-0-is c.in-Err-Area.ensures.count c.in-Ok.ensures.count c.in-Ok.ensures.unchanged.same
    c.in-Err-Area.ensures.refused (λ m e. cc))

pub returns-in-Err-Device-clause-answers : goal.returns-in-Err-Device-clause-answers
returns-in-Err-Device-clause-answers g c =
    let d : Pair = pair_of g.D.Device.size g.D.Device.bytes g.D.Device.failed c.args.backup.now c.accepted_header.new.device c.args.volume.now c.outline_there.new.device in
    subst (IsPutBackAnswer g.D.Device.tells c.args.restoring.now d) (sym c.device_fault-in-Err-Device.ensures)
    (put_fault g.D.Device.tells c.args.restoring.now d _ check.Device c.in-Err-Device.field-0-is c.in-Err-Device.ensures.count c.in-Ok.ensures.count c.in-Ok.ensures.unchanged.same
    c.in-Err-Device.ensures.refused (λ m e. cc))

pub returns-in-Err-Memory-clause-answers : goal.returns-in-Err-Memory-clause-answers
returns-in-Err-Memory-clause-answers g c =
    let d : Pair = pair_of g.D.Device.size g.D.Device.bytes g.D.Device.failed c.args.backup.now c.accepted_header.new.device c.args.volume.now c.outline_there.new.device in
    put_fault g.D.Device.tells c.args.restoring.now d _ check.Memory c.in-Err-Memory.field-0-is c.in-Err-Memory.ensures.count c.in-Ok.ensures.count c.in-Ok.ensures.unchanged.same
    c.in-Err-Memory.ensures.refused (λ m e. cc)

pub returns-in-Ok-accepted_header-clause-rest : goal.returns-in-Ok-accepted_header-clause-rest
returns-in-Ok-accepted_header-clause-rest g c = λ told.
    let bytes = g.D.Device.bytes in
    keeps_after c.args.restoring.now.payload (bytes c.args.backup.now) (bytes c.accepted_header.new.device) (bytes c.args.volume.now) (bytes c.outline_there.new.device)
    (bytes c.put_over.new.volume) (c.in-Ok-accepted_header.ensures.unchanged.same told) (c.in-Ok.ensures.unchanged.same told) (c.put_over.ensures.rest told)

pub returns-in-Err-Meta-clause-rest : goal.returns-in-Err-Meta-clause-rest
returns-in-Err-Meta-clause-rest g c = λ told.
    let bytes = g.D.Device.bytes in
    keeps_after c.args.restoring.now.payload (bytes c.args.backup.now) (bytes c.accepted_header.new.device) (bytes c.args.volume.now) (bytes c.outline_there.new.device)
    (bytes c.put_back_wide.new.volume) (c.in-Err-Meta.ensures.unchanged.same told) (c.in-Ok.ensures.unchanged.same told) (c.put_back_wide.ensures.rest told)
