use Rattle.std.proofs.Common.{refl}
use Rattle.luks_older_hashes.specs.Ripemd160.{compress, joined_lines}
use Rattle.luks_older_hashes.proofs.ripemd160.compression.compress.Goals as goal

pub returns : goal.returns
unfolding compress joined_lines
returns c = rw (c.left_line-left.ensures, c.right_line-right.ensures, c.block_words-words.ensures) refl
