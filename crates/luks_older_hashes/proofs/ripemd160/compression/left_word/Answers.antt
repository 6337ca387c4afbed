use Rattle.std.specs.Int.Bits.{mask_lt}
use Rattle.luks_older_hashes.proofs.Ripemd160LineFacts.{left_word_at}
use Rattle.luks_older_hashes.proofs.ripemd160.compression.left_word.Goals as goal

pub returns : goal.returns
returns c = record { value = left_word_at c.args.j c.requires; small = mask_lt _ 4 }
