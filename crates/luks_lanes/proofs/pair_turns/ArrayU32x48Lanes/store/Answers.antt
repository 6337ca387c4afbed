use Rattle.std.proofs.Common.{◌≡◌, arith}
use Rattle.sha2.specs.Sha256.{digest_bytes}
use Rattle.luks_rounds.specs.Pair.{lane}
use Rattle.luks_lanes.proofs.RowFacts.{written_more}
use Rattle.luks_lanes.proofs.pair_turns.ArrayU32x48Lanes.store.Goals as goal

pub loop-j-preserved : goal.loop-j-preserved
loop-j-preserved c =
    let wrote : c.write_words.new.bytes ≡ digest_bytes (lane c.loop-j.j c.args.self.now) 8 = rw c.lane_words.ensures at c.write_words.ensures in
    written_more 32 c.loop-j.j (λ k. digest_bytes (lane k c.args.self.now) 8) c.loop-j.row _ _ _ (omega arith) (omega arith) c.write_words.auto.bytes
    (omega (arith, c.loop-j-test.true, c.loop-j.auto.row)) c.loop-j.invariant wrote

pub returns : goal.returns
returns c = λ j lt there. c.loop-j.invariant j (omega (arith, lt, there, c.loop-j-test.false))
