use Rattle.std.proofs.Common.{◌≡◌, arith, sym, ◌∙◌}
use Rattle.sha1.specs.Sha1.{digest_bytes}
use Rattle.sha2.specs.Sha256 as Sha256
use Rattle.luks_rounds.specs.Quad.{lane}
use Rattle.luks_lanes.proofs.ByteFacts.{same_bytes}
use Rattle.luks_lanes.proofs.RowFacts.{written_more}
use Rattle.luks_lanes.proofs.quad_turns.ArrayU32x45Lanes.store.Goals as goal

pub loop-j-preserved : goal.loop-j-preserved
loop-j-preserved c =
    let wrote : c.write_words.new.bytes ≡ Sha256.digest_bytes (lane c.loop-j.j c.args.self.now) 5 = rw c.lane_words.ensures at c.write_words.ensures in
    written_more 20 c.loop-j.j (λ k. digest_bytes (lane k c.args.self.now) 5) c.loop-j.row _ _ _ (omega arith) (omega arith) c.write_words.auto.bytes
    (omega (arith, c.loop-j-test.true, c.loop-j.auto.row)) c.loop-j.invariant
    (wrote ∙ sym (same_bytes _ 5))

pub returns : goal.returns
returns c = λ j lt there. c.loop-j.invariant j (omega (arith, lt, there, c.loop-j-test.false))
