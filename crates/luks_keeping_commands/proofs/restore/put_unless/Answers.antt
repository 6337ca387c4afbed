use Rattle.std.proofs.Common.{List, ℕ, sym, subst, inl, inr}
use Rattle.luks_keeping_commands.specs.Restoring.{KeepsRest}
use Rattle.luks_keeping_commands.proofs.Lifted.{after_both}
use Rattle.luks_keeping_commands.proofs.RestoreFacts.{keeps_after, keeps_same, put_after}
use Rattle.luks_keeping_commands.proofs.restore.put_unless.Goals as goal

pub returns-in-Ok-clause-answers : goal.returns-in-Ok-clause-answers
returns-in-Ok-clause-answers g c = inr (
  c.in-Ok.ensures.clear,
  put_after g.D.Device.tells c.args.restoring.now _ _
      (after_both g.D.Device.tells g.D.Device.size g.D.Device.bytes g.D.Device.failed c.args.backup.now c.judge_volume.new.backup c.put_back.new.backup
      c.args.volume.now c.judge_volume.new.volume c.put_back.new.volume
      c.in-Ok.ensures.kept.same c.in-Ok.ensures.count.0 c.in-Ok.ensures.unchanged.same c.in-Ok.ensures.unchanged.size c.in-Ok.ensures.count.1)
      _ c.put_back.ensures.answers,
)

pub returns-in-Err-clause-answers : goal.returns-in-Err-clause-answers
returns-in-Err-clause-answers g c = inl (record {
  bar = c.in-Err.bar;
  barred = c.in-Err.ensures.barred;
  counted = c.in-Err.ensures.count;
  same = c.in-Err.ensures.unchanged.same;
  is = c.held_back.ensures.answer;
})

pub returns-in-Err-2-clause-answers : goal.returns-in-Err-2-clause-answers
returns-in-Err-2-clause-answers g c = inl (record {
  bar = c.in-Err.bar;
  barred = c.in-Err.ensures.barred;
  counted = c.in-Err.ensures.count;
  same = c.in-Err.ensures.unchanged.same;
  is = c.held_back-in-Err-2.ensures.answer;
})

pub returns-in-Err-2-clause-rest : goal.returns-in-Err-2-clause-rest
returns-in-Err-2-clause-rest g c = λ tells.
    let b : List ℕ = g.D.Device.bytes c.args.backup.now in
    let t : List ℕ = g.D.Device.bytes c.args.volume.now in
    subst (KeepsRest c.args.restoring.now.payload b t) (sym (c.in-Err.ensures.unchanged.same tells)) (keeps_same c.args.restoring.now.payload b t)

pub returns-in-Ok-clause-rest : goal.returns-in-Ok-clause-rest
returns-in-Ok-clause-rest g c = λ told.
    let bytes = g.D.Device.bytes in
    keeps_after c.args.restoring.now.payload (bytes c.args.backup.now) (bytes c.judge_volume.new.backup) (bytes c.args.volume.now) (bytes c.judge_volume.new.volume)
    (bytes c.put_back.new.volume) (c.in-Ok.ensures.kept.same told) (c.in-Ok.ensures.unchanged.same told) (c.put_back.ensures.rest told)
