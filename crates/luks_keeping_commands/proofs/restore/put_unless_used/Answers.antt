use Rattle.std.proofs.Common.{List, ℕ, sym, subst}
use Rattle.luks_keeping_commands.specs.RestoringUnderway.{IsUnderwayPutBack, IsUnused}
use Rattle.luks_keeping_commands.specs.TwoFiles.{pair_of}
use Rattle.luks_keeping_commands.proofs.Lifted.{after_both}
use Rattle.luks_keeping_commands.proofs.RestoreFacts.{barred_underway, underway_after}
use Rattle.luks_keeping_commands.proofs.restore.put_unless_used.Goals as goal

pub returns-in-Ok-clause-answers : goal.returns-in-Ok-clause-answers
returns-in-Ok-clause-answers g c =
    underway_after g.D.Device.tells c.args.restoring.now _ _
    (after_both g.D.Device.tells g.D.Device.size g.D.Device.bytes g.D.Device.failed c.args.backup.now c.judge_use_underway.new.backup c.put_copy.new.backup
    c.args.volume.now c.judge_use_underway.new.volume c.put_copy.new.volume
    c.in-Ok.ensures.kept.same c.in-Ok.ensures.count.0 c.in-Ok.ensures.unchanged.same c.in-Ok.ensures.unchanged.size c.in-Ok.ensures.count.1)
    _ c.put_copy.ensures.answers

pub returns-in-Err-clause-answers : goal.returns-in-Err-clause-answers
returns-in-Err-clause-answers g c =
    let d = pair_of g.D.Device.size g.D.Device.bytes g.D.Device.failed c.args.backup.now c.judge_use_underway.new.backup c.args.volume.now c.judge_use_underway.new.volume in
    subst (IsUnderwayPutBack g.D.Device.tells c.args.restoring.now d) (sym c.held_back.ensures.answer)
    (barred_underway g.D.Device.tells c.args.restoring.now d c.in-Err.bar c.in-Err.ensures.count c.in-Err.ensures.unchanged.same c.in-Err.ensures.barred)

pub returns-in-Err-2-clause-answers : goal.returns-in-Err-2-clause-answers
returns-in-Err-2-clause-answers g c =
    let d = pair_of g.D.Device.size g.D.Device.bytes g.D.Device.failed c.args.backup.now c.judge_use_underway.new.backup c.args.volume.now c.judge_use_underway.new.volume in
    subst (IsUnderwayPutBack g.D.Device.tells c.args.restoring.now d) (sym c.held_back-in-Err-2.ensures.answer)
    (barred_underway g.D.Device.tells c.args.restoring.now d c.in-Err.bar c.in-Err.ensures.count c.in-Err.ensures.unchanged.same c.in-Err.ensures.barred)

pub put_copy-requires-clause-unused : goal.put_copy-requires-clause-unused
put_copy-requires-clause-unused g c = λ tells.
    let r = c.args.restoring.now in
    subst (λ (b : List ℕ). IsUnused r.over b (g.D.Device.bytes c.judge_use_underway.new.volume)) (sym (c.in-Ok.ensures.kept.same tells))
    (subst (λ (t : List ℕ). IsUnused r.over (g.D.Device.bytes c.args.backup.now) t) (sym (c.in-Ok.ensures.unchanged.same tells)) (c.in-Ok.ensures.clear tells))
