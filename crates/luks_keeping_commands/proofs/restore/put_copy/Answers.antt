use Rattle.std.proofs.Common.{refl, sym, subst}
use Rattle.luks_commands.proofs.BesideFacts.{settled_by}
use Rattle.luks_wide_keeping.specs.Restored.{CanRestoreUnderway, IsUnderwayUnrestored, is_underway_restore_failure}
use Rattle.luks_wide_keeping.specs.declared.over.OverUnderway.{OverUnderway}
use Rattle.luks_keeping_commands.specs.RestoringUnderway.{IsUnderwayPutBack}
use Rattle.luks_keeping_commands.specs.TwoFiles.{pair_of}
use Rattle.luks_keeping_commands.proofs.RestoreFacts.{underway_fault}
use Rattle.luks_keeping_commands.proofs.restore.put_copy.Goals as goal

pub returns-in-Ok-clause-answers : goal.returns-in-Ok-clause-answers
returns-in-Ok-clause-answers g c =
    let b = g.D.Device.bytes c.args.backup.now in
    let t = g.D.Device.bytes c.args.volume.now in (
      c.in-Ok.ensures.count,
      refl,
      c.requires.unused,
      λ told. subst (λ (o : OverUnderway). CanRestoreUnderway b t c.args.restoring.now.payload o) c.over_underway-over.ensures (c.in-Ok.ensures.faultless told told),
      λ told. record { restored = c.in-Ok.ensures.restored told told; reads = c.in-Ok.ensures.reads told told },
    )

pub returns-in-Err-2-clause-settled : goal.returns-in-Err-2-clause-settled
returns-in-Err-2-clause-settled g c = λ told a b.
    settled_by g.D.Device.tells g.D.Device.size g.D.Device.bytes is_underway_restore_failure _ _ _ _ c.restore_underway.result c.restore_underway.ensures.count
    (c.restore_underway.ensures.settled told) c.restore_underway.ensures.refused told a b (c.requires.settled told)

pub returns-in-Err-clause-answers : goal.returns-in-Err-clause-answers
returns-in-Err-clause-answers g c =
    let b = g.D.Device.bytes c.args.backup.now in
    let t = g.D.Device.bytes c.args.volume.now in
    let d = pair_of g.D.Device.size g.D.Device.bytes g.D.Device.failed c.args.backup.now c.restore_underway.new.backup c.args.volume.now c.restore_underway.new.target in
    subst (IsUnderwayPutBack g.D.Device.tells c.args.restoring.now d) (sym c.underway_not_restored.ensures)
    (underway_fault g.D.Device.tells c.args.restoring.now d c.in-Err.fault c.in-Err.ensures.count
    (λ is. (c.in-Err.ensures.refused is).same) c.in-Err.ensures.no_memory
    (λ told. subst (λ (o : OverUnderway). IsUnderwayUnrestored b t c.args.restoring.now.payload o c.in-Err.fault) c.over_underway-over.ensures (c.in-Err.ensures.fault told told)))

pub returns-in-Err-2-clause-answers : goal.returns-in-Err-2-clause-answers
returns-in-Err-2-clause-answers g c =
    let b = g.D.Device.bytes c.args.backup.now in
    let t = g.D.Device.bytes c.args.volume.now in
    let d = pair_of g.D.Device.size g.D.Device.bytes g.D.Device.failed c.args.backup.now c.restore_underway.new.backup c.args.volume.now c.restore_underway.new.target in
    subst (IsUnderwayPutBack g.D.Device.tells c.args.restoring.now d) (sym c.underway_not_restored-in-Err-2.ensures)
    (underway_fault g.D.Device.tells c.args.restoring.now d c.in-Err.fault c.in-Err.ensures.count
    (λ is. (c.in-Err.ensures.refused is).same) c.in-Err.ensures.no_memory
    (λ told. subst (λ (o : OverUnderway). IsUnderwayUnrestored b t c.args.restoring.now.payload o c.in-Err.fault) c.over_underway-over.ensures (c.in-Err.ensures.fault told told)))
