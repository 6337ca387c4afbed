use Rattle.std.proofs.Common.{length, refl, subst}
use Rattle.luks_meta.specs.Content.{content}
use Rattle.luks2_judging.specs.Keys.{IsTakenBy}
use Rattle.luks2_judging.proofs.DigestFacts.{IsUnmetSoFar, unmet_long, unmet_passed, unmet_taken, unmet_wrong}
use Rattle.luks2_judging.proofs.keys.unmet.Goals as goal
use Rattle.luks2_judging.proofs.keys.unmet.Goals.{in-Some+else-not-known, in-None}

pub loop-number-preserved : goal.loop-number-preserved
loop-number-preserved c =
    let older = c.args.older in
    let j = content c.args.meta.now in
    let key = c.args.key.now in
    let n = c.loop-number.number in
    elim c.match-takes_known.branch [
      | in-Some+else-not-known w ↦ rw w.taken-is (unmet_taken older j key n c.loop-number.taken c.loop-number.invariant
          (subst (λ b. IsTakenBy older j n (length key) b) w.if-not-known.false w.in-Some.ensures.some))
      | in-None w ↦ rw w.taken-is (unmet_passed older j key n c.loop-number.taken c.loop-number.invariant (w.in-None.ensures.none refl))
    ]

pub returns-then-taken : goal.returns-then-taken
returns-then-taken c =
    let so_far = subst (λ b. IsUnmetSoFar c.args.older (content c.args.meta.now) c.args.key.now c.loop-number.number b) c.if-taken.true c.loop-number.invariant in
    unmet_wrong c.args.older (content c.args.meta.now) c.args.key.now c.loop-number.number c.loop-number-test.false so_far c.requires.none

pub returns-else-taken : goal.returns-else-taken
returns-else-taken c =
    let so_far = subst (λ b. IsUnmetSoFar c.args.older (content c.args.meta.now) c.args.key.now c.loop-number.number b) c.if-taken.false c.loop-number.invariant in
    unmet_long c.args.older (content c.args.meta.now) c.args.key.now c.loop-number.number c.loop-number-test.false so_far
