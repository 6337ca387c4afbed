use Rattle.std.proofs.Common.{refl}
use Rattle.luks_older_hashes.specs.Whirlpool.{round}
use Rattle.luks_older_hashes.proofs.whirlpool.compression.round.Goals as goal

pub returns : goal.returns
unfolding round
returns c = rw (c.add.ensures, c.mix_rows-mixed.ensures, c.shift_columns-moved.ensures, c.sub_bytes-substituted.ensures) refl
