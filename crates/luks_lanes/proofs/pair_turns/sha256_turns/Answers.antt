use Rattle.std.proofs.Common.{◌≡◌, ◌*◌, ◌+◌, ◌/◌, arith, length}
use Rattle.sha2.specs.Sha256.{sha256}
use Rattle.luks_lanes.proofs.RowFacts.{turned_more}
use Rattle.luks_lanes.proofs.pair_turns.sha256_turns.Goals as goal

pub loop-i-preserved : goal.loop-i-preserved
loop-i-preserved c =
    let i = c.loop-i.i in
    let more : i * 2 + 2 ≡ (i + 1) * 2 = omega arith in
    let key = c.args.key.now in
    rw more at (turned_more sha256 32 key c.args.iterations (i * 2) 2 c.args.blocks.now c.loop-i.blocks _ _ _ (omega arith) (omega arith) c.run.auto.row
    (omega (arith, c.loop-i-test.true, c.loop-i.auto.blocks))
    (λ d lt. c.run.ensures key d lt (omega arith) c.requires.whole_key c.new-keyed.ensures) c.loop-i.invariant)

pub returns-clause-turned : goal.returns-clause-turned
returns-clause-turned c =
    let n = length c.args.blocks.now in
    let done = n / 64 * 2 in
    let all : c.loop-i.i ≡ n / 64 = omega (arith, c.loop-i.auto.i-end, c.loop-i-test.false) in
    let key = c.args.key.now in
    turned_more sha256 32 key c.args.iterations done 1 c.args.blocks.now c.loop-i.blocks _ _ _ (omega arith) (omega arith) c.run-2.auto.row
    (omega (arith, c.loop-i.auto.blocks))
    (λ d lt. c.run-2.ensures key d lt (omega (arith, lt)) c.requires.whole_key c.new-alone.ensures)
    (rw all at c.loop-i.invariant)
