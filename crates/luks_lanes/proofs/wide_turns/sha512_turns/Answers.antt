use Rattle.std.proofs.Common.{arith}
use Rattle.sha2.specs.Sha512.{sha512}
use Rattle.luks_lanes.proofs.RowFacts.{turned_more}
use Rattle.luks_lanes.proofs.wide_turns.sha512_turns.Goals as goal

pub loop-i-preserved : goal.loop-i-preserved
loop-i-preserved c =
    let key = c.args.key.now in
    turned_more sha512 64 key c.args.iterations c.loop-i.i 1 c.args.blocks.now c.loop-i.blocks _ _ _ (omega arith) (omega arith) c.run.auto.row
    (omega (arith, c.loop-i-test.true, c.loop-i.auto.blocks))
    (λ d lt. c.run.ensures key d lt (omega (arith, lt)) c.requires.whole_key c.new-keyed.ensures) c.loop-i.invariant
