use Rattle.std.proofs.Common.{arith}
use Rattle.luks_older_hashes.proofs.WhirlpoolStateFacts.{sub_bytes_are}
use Rattle.luks_older_hashes.proofs.whirlpool.compression.sub_bytes.Goals as goal

pub returns : goal.returns
returns c = sub_bytes_are c.loop-k.out c.args.state.now c.loop-k.invariant.0 (λ k lt. c.loop-k.invariant.1 k (omega arith))
