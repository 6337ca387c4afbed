use Rattle.std.proofs.Common.{arith}
use Rattle.luks_older_hashes.proofs.WhirlpoolStateFacts.{shift_columns_are}
use Rattle.luks_older_hashes.proofs.whirlpool.compression.shift_columns.Goals as goal

pub returns : goal.returns
returns c = shift_columns_are c.loop-k.out c.args.state.now c.loop-k.invariant.0 (λ k lt. c.loop-k.invariant.1 k (omega arith))
