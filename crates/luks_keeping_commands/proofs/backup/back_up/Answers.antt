use Rattle.std.proofs.Common.{◌≡◌, false, inl, refl, sym, subst, ap}
use Rattle.luks_keeping.specs.BackupFaults.{is_backup_failure}
use Rattle.luks_keeping.specs.declared.backup_fault.BackupFault.TheVariants.{TooSmall}
use Rattle.luks_keeping_commands.specs.BackingUp.{IsMadeAnswer}
use Rattle.luks_keeping_commands.specs.TwoFiles.{pair_of, Pair}
use Rattle.luks_keeping_commands.proofs.BackupFacts.{done_other, made_after, made_fault}
use Rattle.luks_keeping_commands.proofs.Lifted.{after_both, counted_own}
use Rattle.luks_keeping_commands.proofs.backup.back_up.Goals as goal

pub returns-in-Ok-clause-answers : goal.returns-in-Ok-clause-answers
returns-in-Ok-clause-answers g c = inl (
  (
    c.in-Ok.ensures.count,
    refl,
    c.in-Ok.ensures.faultless,
    λ told. record { backup = c.in-Ok.ensures.backup told told; well_formed = c.in-Ok.ensures.well_formed told told; answers = c.in-Ok.ensures.answers told told },
  ),
  λ told u. absurd (done_other (g.D.Device.bytes c.args.volume.now) c.args.backing_up.now.payload _ (c.in-Ok.ensures.faultless told) u),
)

pub returns-in-Err-NotAccepted-clause-answers : goal.returns-in-Err-NotAccepted-clause-answers
returns-in-Err-NotAccepted-clause-answers g c =
    let own : is_backup_failure c.in-Err-NotAccepted.field-0 ≡ false = ap is_backup_failure c.in-Err-NotAccepted.field-0-is in
    let kept = c.in-Err-NotAccepted.ensures.refused own in
    let none = counted_own (is_backup_failure c.in-Err-NotAccepted.field-0) (g.D.Device.failed c.args.volume.now) (g.D.Device.failed c.backup.new.source)
    (g.D.Device.failed c.args.target.now) (g.D.Device.failed c.backup.new.target) own c.in-Err-NotAccepted.ensures.count in
    made_after g.D.Device.tells c.args.backing_up.now.payload _ _
    (after_both g.D.Device.tells g.D.Device.size g.D.Device.bytes g.D.Device.failed c.args.volume.now c.backup.new.source c.refused_volume.new.volume
    c.args.target.now c.backup.new.target c.refused_volume.new.target c.in-Err-NotAccepted.ensures.kept.same none.0 kept.same kept.size none.1)
    c.refused_volume.result c.refused_volume.ensures.answers

pub returns-in-Err-TooSmall-clause-answers : goal.returns-in-Err-TooSmall-clause-answers
returns-in-Err-TooSmall-clause-answers g c =
    let d : Pair = pair_of g.D.Device.size g.D.Device.bytes g.D.Device.failed c.args.volume.now c.backup.new.source c.args.target.now c.backup.new.target in
    subst (IsMadeAnswer false g.D.Device.tells c.args.backing_up.now.payload d) (sym c.from.ensures)
    (made_fault g.D.Device.tells c.args.backing_up.now.payload d c.in-Err-TooSmall.field-0 TooSmall c.in-Err-TooSmall.field-0-is c.in-Err-TooSmall.ensures.count
    (λ is. (c.in-Err-TooSmall.ensures.refused is).same) c.in-Err-TooSmall.ensures.fault (λ m e. cc))
