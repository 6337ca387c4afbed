use Rattle.std.proofs.Common.{arith}
use Rattle.luks_older_hashes.proofs.WhirlpoolStateFacts.{sums_are}
use Rattle.luks_older_hashes.proofs.whirlpool.compression.add.Goals as goal

pub returns : goal.returns
returns c = sums_are c.loop-k.out c.args.state.now c.args.other.now c.loop-k.invariant.0 (λ k lt. c.loop-k.invariant.1 k (omega arith))
