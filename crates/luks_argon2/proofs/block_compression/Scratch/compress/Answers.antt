use Rattle.std.proofs.Common.{refl}
use Rattle.luks_argon2.specs.BlockCompression.{compressed}
use Rattle.luks_argon2.proofs.block_compression.Scratch.compress.Goals as goal

pub returns : goal.returns
unfolding compressed
returns c = rw (c.permute_columns.ensures, c.permute_rows.ensures, c.set_xored.ensures) refl
