use Rattle.std.proofs.Common.{refl}
use Rattle.luks_older_hashes.proofs.Ripemd160HoldingFacts.{Holds_none}
use Rattle.luks_older_hashes.proofs.ripemd160.hasher.Ripemd160.new.Goals as goal

pub returns : goal.returns
returns c = Holds_none _ refl refl
