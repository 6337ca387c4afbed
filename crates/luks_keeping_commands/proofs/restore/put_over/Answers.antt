use Rattle.std.proofs.Common.{sym, subst}
use Rattle.luks_commands.specs.Answer.{restore_fault_answer}
use Rattle.luks_keeping.specs.declared.over.Over.{Over}
use Rattle.luks_keeping_commands.specs.Restoring.{IsRestoreAnswer, over_of}
use Rattle.luks_keeping_commands.specs.TwoFiles.{pair_of, Pair}
use Rattle.luks_keeping_commands.proofs.RestoreFacts.{answers_fault, keeps_rest}
use Rattle.luks_keeping_commands.proofs.restore.put_over.Goals as goal

pub returns-in-Ok-clause-rest : goal.returns-in-Ok-clause-rest
returns-in-Ok-clause-rest g c = λ told.
    keeps_rest c.args.restoring.now.payload _ _ _ (g.D.Device.size c.args.volume.now) (g.met.D.Device.sized c.args.volume.now told)
    (c.restore_header.ensures.rest told told) (c.restore_header.ensures.segments told told) (c.restore_header.ensures.order told told)

pub returns-in-Err-clause-rest : goal.returns-in-Err-clause-rest
returns-in-Err-clause-rest g c = λ told.
    keeps_rest c.args.restoring.now.payload _ _ _ (g.D.Device.size c.args.volume.now) (g.met.D.Device.sized c.args.volume.now told)
    (c.restore_header.ensures.rest told told) (c.restore_header.ensures.segments told told) (c.restore_header.ensures.order told told)

pub returns-in-Err-2-clause-rest : goal.returns-in-Err-2-clause-rest
returns-in-Err-2-clause-rest g c = λ told.
    keeps_rest c.args.restoring.now.payload _ _ _ (g.D.Device.size c.args.volume.now) (g.met.D.Device.sized c.args.volume.now told)
    (c.restore_header.ensures.rest told told) (c.restore_header.ensures.segments told told) (c.restore_header.ensures.order told told)

pub returns-in-Err-clause-answers : goal.returns-in-Err-clause-answers
returns-in-Err-clause-answers g c =
    let d : Pair = pair_of g.D.Device.size g.D.Device.bytes g.D.Device.failed c.args.backup.now c.restore_header.new.backup c.args.volume.now c.restore_header.new.target in
    subst (IsRestoreAnswer g.D.Device.tells c.args.restoring.now.payload (over_of c.args.restoring.now) d) (sym c.not_restored.ensures)
    (subst (λ (o : Over). IsRestoreAnswer g.D.Device.tells c.args.restoring.now.payload o d (restore_fault_answer c.in-Err.fault)) c.over_of-over.ensures
    (answers_fault g.D.Device.tells c.args.restoring.now.payload c.over_of-over.result d c.in-Err.fault c.in-Err.ensures.count
    (λ is. (c.in-Err.ensures.refused is).same) (λ told. c.in-Err.ensures.fault told told)))
