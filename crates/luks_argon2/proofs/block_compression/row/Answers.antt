use Rattle.std.proofs.Common.{arith}
use Rattle.luks_argon2.proofs.BlockFacts.{row_is}
use Rattle.luks_argon2.proofs.block_compression.row.Goals as goal

pub returns : goal.returns
returns c = row_is c.get.v c.args.b.now c.args.i c.get.invariant.0 (λ n lt. c.get.invariant.1 n (omega arith))
