use Rattle.std.proofs.Common.{arith}
use Rattle.luks_argon2.proofs.BlockFacts.{xored_is}
use Rattle.luks_argon2.proofs.block_compression.set_xored.Goals as goal

pub returns : goal.returns
returns c = xored_is c.words.z c.args.x.now c.args.y.now c.words.invariant.0 (λ n lt. c.words.invariant.1 n (omega arith))
