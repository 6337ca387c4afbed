use Rattle.std.proofs.Common.{◌≡◌, ◌*◌, ◌+◌, ◌-◌, ◌/◌, arith, length}
use Rattle.sha1.specs.Sha1.{sha1}
use Rattle.luks_lanes.proofs.RowFacts.{turned_more}
use Rattle.luks_lanes.proofs.quad_turns.sha1_turns.Goals as goal

pub loop-i-preserved : goal.loop-i-preserved
loop-i-preserved c =
    let i = c.loop-i.i in
    let more : i * 4 + 4 ≡ (i + 1) * 4 = omega arith in
    let key = c.args.key.now in
    rw more at (turned_more sha1 20 key c.args.iterations (i * 4) 4 c.args.blocks.now c.loop-i.blocks _ _ _ (omega arith) (omega arith) c.run.auto.row
    (omega (arith, c.loop-i-test.true, c.loop-i.auto.blocks))
    (λ d lt. c.run.ensures key d lt (omega arith) c.requires.whole_key c.new-keyed.ensures) c.loop-i.invariant)

pub returns-then-left-eq1-clause-turned : goal.returns-then-left-eq1-clause-turned
returns-then-left-eq1-clause-turned c =
    let n = length c.args.blocks.now in
    let done = n / 80 * 4 in
    let all : c.loop-i.i ≡ n / 80 = omega (arith, c.loop-i.auto.i-end, c.loop-i-test.false) in
    let key = c.args.key.now in
    turned_more sha1 20 key c.args.iterations done 1 c.args.blocks.now c.loop-i.blocks _ _ _ (omega arith) (omega arith) c.run-then-left-eq1.auto.row
    (omega (arith, c.loop-i.auto.blocks))
    (λ d lt. c.run-then-left-eq1.ensures key d lt (omega (arith, lt, c.loop-i.auto.blocks)) c.requires.whole_key c.new-alone.ensures)
    (rw all at c.loop-i.invariant)

pub returns-clause-turned : goal.returns-clause-turned
returns-clause-turned c =
    let n = length c.args.blocks.now in
    let done = n / 80 * 4 in
    let left = length c.loop-i.blocks / 20 - done in
    let all : c.loop-i.i ≡ n / 80 = omega (arith, c.loop-i.auto.i-end, c.loop-i-test.false) in
    let key = c.args.key.now in
    turned_more sha1 20 key c.args.iterations done left c.args.blocks.now c.loop-i.blocks _ _ _ (omega arith) (omega arith) c.run-2.auto.row
    (omega (arith, c.loop-i.auto.blocks))
    (λ d lt. c.run-2.ensures key d (omega (arith, lt, c.loop-i.auto.blocks)) (omega (arith, lt, c.loop-i.auto.blocks)) c.requires.whole_key c.new-keyed.ensures)
    (rw all at c.loop-i.invariant)
