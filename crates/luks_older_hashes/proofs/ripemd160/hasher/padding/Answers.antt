use Rattle.std.proofs.Common.{◌-◌, ◌%◌, arith}
use Rattle.luks_older_hashes.proofs.Ripemd160HoldingFacts.{front_of_padding}
use Rattle.luks_older_hashes.proofs.ripemd160.hasher.padding.Goals as goal

pub returns : goal.returns
returns c = front_of_padding 0x80 0 ((119 - c.args.used) % 64) (omega arith)
