use Rattle.luks_older_hashes.proofs.WhirlpoolSboxFacts.{doubled_at}
use Rattle.luks_older_hashes.proofs.whirlpool.compression.times_x.Goals as goal

pub returns : goal.returns
returns c = doubled_at c.args.a c.ranges.a.fits
