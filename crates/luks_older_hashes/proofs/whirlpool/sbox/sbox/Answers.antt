use Rattle.std.proofs.Common.{◌∙◌}
use Rattle.luks_older_hashes.proofs.WhirlpoolSboxFacts.{sbox_at}
use Rattle.luks_older_hashes.proofs.whirlpool.sbox.sbox.Goals as goal

pub returns : goal.returns
returns c =
    rw (c.digit-low.ensures, c.digit-high.ensures, c.digit-middle.ensures, c.digit-lower.ensures, c.digit-upper.ensures) (sbox_at c.args.x c.ranges.x.fits)
