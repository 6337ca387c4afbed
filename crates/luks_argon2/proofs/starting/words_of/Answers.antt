use Rattle.std.proofs.Common.{◌*◌, arith}
use Rattle.luks_argon2.specs.Argon2.{words_of}
use Rattle.luks_argon2.specs.Blake2b.{word_at}
use Rattle.luks_argon2.proofs.BlockFacts.{same_as_map}
use Rattle.luks_argon2.proofs.starting.words_of.Goals as goal

pub returns : goal.returns
unfolding words_of
returns c = same_as_map c.words.words (λ k. word_at c.args.bytes.now (8 * k)) 128 c.words.invariant.0 (λ n lt. c.words.invariant.1 n (omega arith))
