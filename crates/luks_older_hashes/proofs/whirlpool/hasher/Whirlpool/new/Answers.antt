use Rattle.std.proofs.Common.{refl}
use Rattle.luks_older_hashes.proofs.WhirlpoolHoldingFacts.{Holds_none}
use Rattle.luks_older_hashes.proofs.whirlpool.hasher.Whirlpool.new.Goals as goal

pub returns : goal.returns
returns c = Holds_none _ refl refl
