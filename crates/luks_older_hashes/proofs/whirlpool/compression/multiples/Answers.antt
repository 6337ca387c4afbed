use Rattle.luks_older_hashes.proofs.WhirlpoolSboxFacts.{multiples_at}
use Rattle.luks_older_hashes.proofs.whirlpool.compression.multiples.Goals as goal

pub returns : goal.returns
returns c = rw (c.times_x-eight.ensures, c.times_x-four.ensures, c.times_x-two.ensures) (multiples_at c.args.a c.ranges.a.fits)
