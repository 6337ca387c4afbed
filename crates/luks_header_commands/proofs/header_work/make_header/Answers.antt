use Rattle.std.proofs.Common.{List, ℕ, refl, sym, subst, ◌∙◌, inl, inr}
use Rattle.luks_area.proofs.DeviceFacts.{settled_unchanged}
use Rattle.luks_commands.specs.Files.{AreFirstBytes}
use Rattle.luks_commands.proofs.BesideFacts.{leaves_unchanged, left_after}
use Rattle.luks_header_commands.proofs.header_work.make_header.Goals as goal

pub returns-clause-answers : goal.returns-clause-answers
returns-clause-answers g c =
    let HasRandom : List ℕ → Type 0 = AreFirstBytes c.args.files.now.needed g.N.Read.remaining c.args.inputs.now.random in
    let taken : HasRandom c.as_slice.result.now = subst HasRandom (sym c.as_slice.ensures.value) c.in-Ok-random_bytes.ensures.taken in
    rw c.in-Ok.is (rw c.in-Ok-target.is (λ apart.
    inr (record {
      clear = c.in-Ok-judge_target.ensures.clear;
      is = inr (record {
        random = c.as_slice.result.now;
        taken = taken;
        is = c.run.ensures.answers _ (record {
          volume = c.judge_target.ensures.kept.same;
          total = c.judge_target.ensures.unchanged.size;
          old = c.judge_target.ensures.unchanged.same;
          new = refl;
          volume_before = c.in-Ok-judge_target.ensures.count.0;
          volume_after = refl;
          before = c.in-Ok-judge_target.ensures.count.1;
          after = refl;
        });
      });
    })))

pub returns-clause-rest : goal.returns-clause-rest
returns-clause-rest g c =
    rw c.in-Ok.is (rw c.in-Ok-target.is
    (left_after g.D.Device.tells g.D.Device.size g.D.Device.bytes (g.W.HeaderWork.keeps_rest c.args.work.now) c.in-Ok.device _ _ _ _ c.judge_target.ensures.kept.same c.judge_target.ensures.unchanged.size
    c.judge_target.ensures.unchanged.same c.run.ensures.size c.run.ensures.rest))

pub run-requires-clause-settled : goal.run-requires-clause-settled
run-requires-clause-settled g c = λ told.
    settled_unchanged told c.judge_target.ensures.unchanged (c.requires.settled told c.in-Ok-target.device c.in-Ok-target.is)

pub returns-clause-settled : goal.returns-clause-settled
returns-clause-settled g c =
    rw c.in-Ok.is (rw c.in-Ok-target.is (λ told a b.
    c.run.ensures.settled told (a ∙ sym c.in-Ok-judge_target.ensures.count.0) (b ∙ sym c.in-Ok-judge_target.ensures.count.1)))

pub returns-in-Err-judge_target-clause-rest : goal.returns-in-Err-judge_target-clause-rest
returns-in-Err-judge_target-clause-rest g c =
    rw c.in-Ok.is (rw c.in-Ok-target.is
    (leaves_unchanged g.D.Device.tells g.D.Device.size g.D.Device.bytes g.D.Device.unsettled (g.W.HeaderWork.keeps_rest c.args.work.now) (g.met.W.HeaderWork.rest_of_same c.args.work.now) c.in-Ok.device _ _ c.judge_target.ensures.unchanged))

pub returns-in-Err-judge_target-clause-settled : goal.returns-in-Err-judge_target-clause-settled
returns-in-Err-judge_target-clause-settled g c =
    rw c.in-Ok.is (rw c.in-Ok-target.is (λ told a b.
    settled_unchanged told c.judge_target.ensures.unchanged (c.requires.settled told c.in-Ok-target.device c.in-Ok-target.is)))

pub returns-in-Err-judge_target-clause-answers : goal.returns-in-Err-judge_target-clause-answers
returns-in-Err-judge_target-clause-answers g c =
    rw c.in-Ok.is (rw c.in-Ok-target.is (λ apart. inl (record {
      bar = c.in-Err-judge_target.bar;
      barred = c.in-Err-judge_target.ensures.barred;
      counted = c.in-Err-judge_target.ensures.count;
      same = c.judge_target.ensures.unchanged.same;
      is = c.held_back_of.ensures.answer;
    })))

pub returns-in-Err-random_bytes-clause-settled : goal.returns-in-Err-random_bytes-clause-settled
returns-in-Err-random_bytes-clause-settled g c =
    rw c.in-Ok.is (rw c.in-Ok-target.is (λ told a b.
    settled_unchanged told c.judge_target.ensures.unchanged (c.requires.settled told c.in-Ok-target.device c.in-Ok-target.is)))

pub returns-in-Err-random_bytes-clause-rest : goal.returns-in-Err-random_bytes-clause-rest
returns-in-Err-random_bytes-clause-rest g c =
    rw c.in-Ok.is (rw c.in-Ok-target.is
    (leaves_unchanged g.D.Device.tells g.D.Device.size g.D.Device.bytes g.D.Device.unsettled (g.W.HeaderWork.keeps_rest c.args.work.now) (g.met.W.HeaderWork.rest_of_same c.args.work.now) c.in-Ok.device _ _ c.judge_target.ensures.unchanged))
