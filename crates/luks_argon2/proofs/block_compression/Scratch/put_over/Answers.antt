use Rattle.std.proofs.Common.{arith}
use Rattle.luks_argon2.proofs.BlockFacts.{xored_over_is}
use Rattle.luks_argon2.proofs.block_compression.Scratch.put_over.Goals as goal

pub returns : goal.returns
returns c =
    xored_over_is c.words.block c.args.self.now.sum c.args.self.now.turned c.args.block.now c.words.invariant.0 (λ n lt. c.words.invariant.1 n (omega arith))
