use Rattle.std.proofs.Common.{◌-◌, ◌%◌, arith}
use Rattle.luks_older_hashes.proofs.WhirlpoolHoldingFacts.{front_of_padding}
use Rattle.luks_older_hashes.proofs.whirlpool.hasher.padding.Goals as goal

pub returns : goal.returns
returns c = front_of_padding 0x80 0 ((95 - c.args.used) % 64) (omega arith)
