use Rattle.std.proofs.Common.{refl, sym, subst}
use Rattle.luks_keeping.specs.BackupFaults.{is_backup_failure}
use Rattle.luks_commands.proofs.BesideFacts.{settled_by}
use Rattle.luks_keeping_commands.specs.BackingUp.{IsUnderwayMade}
use Rattle.luks_keeping_commands.specs.TwoFiles.{pair_of, Pair}
use Rattle.luks_keeping_commands.proofs.BackupFacts.{underway_fault}
use Rattle.luks_keeping_commands.proofs.backup.back_up_copy.Goals as goal

pub returns-in-Ok-clause-rest : goal.returns-in-Ok-clause-rest
returns-in-Ok-clause-rest g c = λ told. c.back_up_underway.ensures.rest told told c.args.backing_up.now.payload

pub returns-in-Err-clause-rest : goal.returns-in-Err-clause-rest
returns-in-Err-clause-rest g c = λ told. c.back_up_underway.ensures.rest told told c.args.backing_up.now.payload

pub returns-in-Err-2-clause-rest : goal.returns-in-Err-2-clause-rest
returns-in-Err-2-clause-rest g c = λ told. c.back_up_underway.ensures.rest told told c.args.backing_up.now.payload

pub returns-in-Ok-clause-answers : goal.returns-in-Ok-clause-answers
returns-in-Ok-clause-answers g c = (
  c.in-Ok.ensures.count,
  refl,
  c.in-Ok.ensures.faultless,
  λ told. record { backup = c.in-Ok.ensures.backup told told; reads = c.in-Ok.ensures.reads told told },
)

pub returns-in-Err-2-clause-settled : goal.returns-in-Err-2-clause-settled
returns-in-Err-2-clause-settled g c = λ told a b.
    settled_by g.D.Device.tells g.D.Device.size g.D.Device.bytes is_backup_failure _ _ _ _ c.back_up_underway.result c.back_up_underway.ensures.count
    (c.back_up_underway.ensures.settled told) c.back_up_underway.ensures.refused told a b (c.requires.settled told)

pub returns-in-Err-2-clause-answers : goal.returns-in-Err-2-clause-answers
returns-in-Err-2-clause-answers g c =
    let d : Pair = pair_of g.D.Device.size g.D.Device.bytes g.D.Device.failed c.args.volume.now c.back_up_underway.new.source c.args.target.now c.back_up_underway.new.target in
    subst (IsUnderwayMade g.D.Device.tells d) (sym c.not_kept-in-Err-2.ensures)
    (underway_fault g.D.Device.tells d c.in-Err.fault c.in-Err.ensures.count
    (λ is. (c.in-Err.ensures.refused is).same) c.in-Err.ensures.no_memory c.in-Err.ensures.fault)
