use Rattle.std.proofs.Common.{sym, subst}
use Rattle.luks_keeping.specs.BackupFaults.{is_backup_failure}
use Rattle.luks_keeping_commands.specs.BackingUp.{IsRescueAnswer}
use Rattle.luks_keeping_commands.proofs.BackupFacts.{rescue_fault, rescue_settled}
use Rattle.luks_keeping_commands.proofs.backup.back_up_readable.Goals as goal

pub returns-in-Err-clause-answers : goal.returns-in-Err-clause-answers
returns-in-Err-clause-answers g c =
    subst (IsRescueAnswer g.D.Device.tells c.args.backing_up.now.payload _) (sym c.not_kept.ensures)
    (rescue_fault g.D.Device.tells c.args.backing_up.now.payload _ c.in-Err.fault c.in-Err.ensures.count
    (λ told. c.in-Err.ensures.ended told told) (λ is. (c.in-Err.ensures.refused is).same) c.in-Err.ensures.fault)

pub returns-in-Err-2-clause-answers : goal.returns-in-Err-2-clause-answers
returns-in-Err-2-clause-answers g c =
    subst (IsRescueAnswer g.D.Device.tells c.args.backing_up.now.payload _) (sym c.not_kept-in-Err-2.ensures)
    (rescue_fault g.D.Device.tells c.args.backing_up.now.payload _ c.in-Err.fault c.in-Err.ensures.count
    (λ told. c.in-Err.ensures.ended told told) (λ is. (c.in-Err.ensures.refused is).same) c.in-Err.ensures.fault)

pub returns-in-Err-2-clause-settled : goal.returns-in-Err-2-clause-settled
returns-in-Err-2-clause-settled g c = λ told a b.
    rescue_settled g.D.Device.tells g.D.Device.size g.D.Device.bytes is_backup_failure _ _ _ _ c.rescue.result c.rescue.ensures.count
    (c.rescue.ensures.settled told) c.rescue.ensures.refused told a b (c.requires.settled told)
