-- The list is run step by step.
use Rattle.std.proofs.Common.{length, arith, refl, subst, ◌∙◌}
use Rattle.luks_edit.specs.declared.edit.Step.{Step}
use Rattle.luks_edit.specs.Ran.{IsFailure}
use Rattle.luks_reading.specs.Checked.{WellFormed}
use Rattle.luks_volume.specs.Edits.{Replies}
use Rattle.luks_volume.specs.Outcome.{Spares}
use Rattle.luks_volume.proofs.CountFacts.{counts_failure, failure_counted, no_failure_counted, replied_more, replied_none}
use Rattle.luks_volume.proofs.RunFacts.{kept_by_run, run_ends, run_more, run_starts, run_stops}
use Rattle.luks_volume.proofs.StoppedFacts.{so_far_more, so_far_none, spared_by_run}
use Rattle.luks_volume.proofs.running.run.Goals as goal

pub loop-step-init : goal.loop-step-init
loop-step-init g c = record {
  size = refl;
  count = refl;
  settled = c.requires.settled;
  room = omega (arith, c.in-Ok.ensures.ok);
  replied = rw c.try_reserve.ensures.items (replied_none c.args.replies.now.items);
  run = λ tells. rw c.try_reserve.ensures.items
      (run_starts (Replies c.args.payload) (g.D.Device.bytes c.args.device.now) c.args.steps.now c.args.replies.now.items);
  so_far = λ tells. rw c.try_reserve.ensures.items
      (so_far_none (Replies c.args.payload) (g.D.Device.bytes c.args.device.now) c.args.steps.now c.args.replies.now.items);
}

pub loop-step-preserved : goal.loop-step-preserved
loop-step-preserved g c =
    let r = c.apply-reply.result in
    let replied = λ (tells : g.D.Device.tells). subst (λ (s : Step). Replies c.args.payload (g.D.Device.bytes c.loop-step.device) s.edit s.random.now r (g.D.Device.bytes c.apply-reply.new.device))
    c.step-item.is (c.apply-reply.ensures.applied tells).replies in
    let fine : IsFailure r → ⊥ = λ failed. let no = c.if-is_failure.ensures.1 failed in cc in
    let now = c.loop-step.invariant in
    record {
      size = c.apply-reply.ensures.size ∙ now.size;
      count = no_failure_counted r (g.D.Device.failed c.loop-step.device) (g.D.Device.failed c.apply-reply.new.device) fine c.apply-reply.ensures.count ∙ now.count;
      settled = λ tells. c.apply-reply.ensures.settled tells
          (no_failure_counted r (g.D.Device.failed c.loop-step.device) (g.D.Device.failed c.apply-reply.new.device) fine c.apply-reply.ensures.count);
      room = omega arith;
      replied = rw c.push_reserved.ensures.items (replied_more c.loop-step.step-index c.args.replies.now.items c.loop-step.replies.items r fine now.replied);
      run = λ tells. rw c.push_reserved.ensures.items
          (run_more (Replies c.args.payload) (g.D.Device.bytes c.args.device.now) (g.D.Device.bytes c.loop-step.device) (g.D.Device.bytes c.apply-reply.new.device)
          c.args.steps.now c.loop-step.step-index c.args.replies.now.items c.loop-step.replies.items c.step-item.result r c.loop-step-test.true (replied tells) fine (now.run tells));
      so_far = λ tells. rw c.push_reserved.ensures.items
          (so_far_more (Replies c.args.payload) (g.D.Device.bytes c.args.device.now) (g.D.Device.bytes c.loop-step.device) (g.D.Device.bytes c.apply-reply.new.device)
          c.args.steps.now c.loop-step.step-index c.args.replies.now.items c.loop-step.replies.items c.step-item.result r c.loop-step-test.true (replied tells) fine (now.so_far tells));
    }

pub returns-then-is_failure-clause-count : goal.returns-then-is_failure-clause-count
returns-then-is_failure-clause-count g c =
    let r = c.apply-reply.result in
    let failed : IsFailure r = c.if-is_failure.ensures.0 refl in
    let now = c.loop-step.invariant in
    let counted = failure_counted r (g.D.Device.failed c.loop-step.device) (g.D.Device.failed c.apply-reply.new.device) failed c.apply-reply.ensures.count in
    rw (c.push_reserved.ensures.items, counted, now.count)
    (counts_failure (length c.args.steps.now) c.loop-step.step-index c.args.replies.now.items c.loop-step.replies.items r (g.D.Device.failed c.args.device.now)
    c.loop-step-test.true failed now.replied)

pub returns-then-is_failure-clause-ran : goal.returns-then-is_failure-clause-ran
returns-then-is_failure-clause-ran g c = λ tells.
    let r = c.apply-reply.result in
    let replied = subst (λ (s : Step). Replies c.args.payload (g.D.Device.bytes c.loop-step.device) s.edit s.random.now r (g.D.Device.bytes c.apply-reply.new.device))
    c.step-item.is (c.apply-reply.ensures.applied tells).replies in
    let failed : IsFailure r = c.if-is_failure.ensures.0 refl in
    rw c.push_reserved.ensures.items
    (run_stops (Replies c.args.payload) (g.D.Device.bytes c.args.device.now) (g.D.Device.bytes c.loop-step.device) (g.D.Device.bytes c.apply-reply.new.device)
    c.args.steps.now c.loop-step.step-index c.args.replies.now.items c.loop-step.replies.items c.step-item.result r c.loop-step-test.true replied failed
    (c.loop-step.invariant.run tells))

pub returns-then-is_failure-clause-keeps : goal.returns-then-is_failure-clause-keeps
returns-then-is_failure-clause-keeps g c = λ tells well.
    kept_by_run c.args.payload (g.D.Device.bytes c.args.device.now) c.args.steps.now c.args.replies.now.items
    c.push_reserved.new.self.items (g.D.Device.bytes c.apply-reply.new.device) well (returns-then-is_failure-clause-ran g c tells)

pub returns-then-is_failure-clause-spared : goal.returns-then-is_failure-clause-spared
returns-then-is_failure-clause-spared g c = λ tells well apart.
    let r = c.apply-reply.result in
    let spared = λ (met : WellFormed (g.D.Device.bytes c.loop-step.device) c.args.payload) (failed : IsFailure r).
    subst (λ (s : Step). Spares (g.D.Device.bytes c.loop-step.device) c.args.payload s.edit s.random.now (g.D.Device.bytes c.apply-reply.new.device))
    c.step-item.is ((c.apply-reply.ensures.applied tells).spared met failed) in
    let failed : IsFailure r = c.if-is_failure.ensures.0 refl in
    rw c.push_reserved.ensures.items
    (spared_by_run c.args.payload (g.D.Device.bytes c.args.device.now) (g.D.Device.bytes c.loop-step.device)
    (g.D.Device.bytes c.apply-reply.new.device) c.args.steps.now c.loop-step.step-index c.args.replies.now.items c.loop-step.replies.items c.step-item.result r c.loop-step-test.true
    well failed (λ met. spared met failed) (c.loop-step.invariant.so_far tells))

pub returns-clause-ran : goal.returns-clause-ran
returns-clause-ran g c = λ tells.
    run_ends (Replies c.args.payload) (g.D.Device.bytes c.args.device.now) (g.D.Device.bytes c.loop-step.device) c.args.steps.now c.loop-step.step-index
    c.args.replies.now.items c.loop-step.replies.items c.loop-step-test.false (c.loop-step.invariant.run tells)

pub returns-clause-keeps : goal.returns-clause-keeps
returns-clause-keeps g c = λ tells well.
    kept_by_run c.args.payload (g.D.Device.bytes c.args.device.now) c.args.steps.now c.args.replies.now.items
    c.loop-step.replies.items (g.D.Device.bytes c.loop-step.device) well (returns-clause-ran g c tells)

pub returns-clause-spared : goal.returns-clause-spared
returns-clause-spared g c = λ tells well apart. absurd (apart c.loop-step.invariant.count)
