use Rattle.std.proofs.Common.{true, false, inl, inr, refl, sym, subst, ap, ◌∙◌}
use Rattle.luks_area.specs.Device.{count_after}
use Rattle.luks_keeping.specs.BackupFaults.{is_backup_failure, IsAnsweredBackup}
use Rattle.luks_keeping.specs.declared.backup_fault.BackupFault.TheVariants.{TooSmall, Memory, Device}
use Rattle.luks_keeping_commands.specs.BackingUp.{IsUnmadeAnswer}
use Rattle.luks_keeping_commands.proofs.BackupFacts.{unmade_by, unmade_fault, unmade_file_after, unkept_narrow}
use Rattle.luks_keeping_commands.proofs.NarrowFacts.{formed_other}
use Rattle.luks_keeping_commands.proofs.backup.without_file.Goals as goal

pub returns-in-Ok-clause-answers : goal.returns-in-Ok-clause-answers
returns-in-Ok-clause-answers g c =
    let v = g.D.Device.bytes c.args.volume.now in
    let backing_up = c.args.backing_up.now in
    unmade_by backing_up.rescue g.D.Device.tells backing_up.payload v _ _ c.args.missed c.unread.result
    (inr (c.in-Ok.ensures.count, λ told. c.in-Ok.ensures.well_formed told, c.unread.ensures.answer))
    (λ told u. absurd (formed_other v backing_up.payload (c.in-Ok.ensures.well_formed told) u))

pub returns-in-Err-TooSmall-clause-answers : goal.returns-in-Err-TooSmall-clause-answers
returns-in-Err-TooSmall-clause-answers g c =
    let v = g.D.Device.bytes c.args.volume.now in
    let backing_up = c.args.backing_up.now in
    subst (IsUnmadeAnswer backing_up.rescue g.D.Device.tells backing_up.payload v (g.D.Device.failed c.args.volume.now) (g.D.Device.failed c.backup_length.new.source) c.args.missed)
    (sym c.from.ensures)
    (unmade_fault backing_up.rescue g.D.Device.tells backing_up.payload v _ _ c.args.missed c.in-Err-TooSmall.field-0 TooSmall c.in-Err-TooSmall.field-0-is
    c.in-Err-TooSmall.ensures.count c.in-Err-TooSmall.ensures.fault (λ m e. cc))

pub returns-in-Err-Memory-clause-answers : goal.returns-in-Err-Memory-clause-answers
returns-in-Err-Memory-clause-answers g c =
    let v = g.D.Device.bytes c.args.volume.now in
    let backing_up = c.args.backing_up.now in
    unmade_fault backing_up.rescue g.D.Device.tells backing_up.payload v _ _ c.args.missed c.in-Err-Memory.field-0 Memory c.in-Err-Memory.field-0-is
    c.in-Err-Memory.ensures.count c.in-Err-Memory.ensures.fault (λ m e. cc)

pub returns-in-Err-Device-clause-answers : goal.returns-in-Err-Device-clause-answers
returns-in-Err-Device-clause-answers g c =
    let v = g.D.Device.bytes c.args.volume.now in
    let backing_up = c.args.backing_up.now in
    subst (IsUnmadeAnswer backing_up.rescue g.D.Device.tells backing_up.payload v (g.D.Device.failed c.args.volume.now) (g.D.Device.failed c.backup_length.new.source) c.args.missed)
    (sym c.device_fault.ensures)
    (unmade_fault backing_up.rescue g.D.Device.tells backing_up.payload v _ _ c.args.missed c.in-Err-Device.field-0 Device c.in-Err-Device.field-0-is
    c.in-Err-Device.ensures.count c.in-Err-Device.ensures.fault (λ m e. cc))

pub returns-then-not-backing_up-clause-answers : goal.returns-then-not-backing_up-clause-answers
returns-then-not-backing_up-clause-answers g c =
    let v = g.D.Device.bytes c.args.volume.now in
    let w = g.D.Device.bytes c.backup_length.new.source in
    let n = g.D.Device.failed c.args.volume.now in
    let k = g.D.Device.failed c.backup_length.new.source in
    let after = g.D.Device.failed c.without_file_refused.new.volume in
    let payload = c.args.backing_up.now.payload in
    let counted = c.in-Err-NotAccepted.ensures.count ∙ ap (λ f. count_after (is_backup_failure f) n) c.in-Err-NotAccepted.field-0-is in
    subst (λ r. IsUnmadeAnswer r g.D.Device.tells payload v n after c.args.missed c.without_file_refused.result) (sym c.if-not-backing_up.true)
    (unmade_file_after g.D.Device.tells payload c.args.missed v w n k after c.in-Err-NotAccepted.ensures.unchanged.same counted
    c.without_file_refused.result c.without_file_refused.ensures.answers)
