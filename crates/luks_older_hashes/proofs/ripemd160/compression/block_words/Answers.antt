use Rattle.std.proofs.Common.{arith}
use Rattle.luks_older_hashes.proofs.Ripemd160LineFacts.{block_words_are}
use Rattle.luks_older_hashes.proofs.ripemd160.compression.block_words.Goals as goal

pub returns : goal.returns
returns c = block_words_are c.loop-i.words c.args.block.now c.loop-i.invariant.0 (λ k lt. c.loop-i.invariant.1 k (omega arith))
