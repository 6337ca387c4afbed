use Rattle.std.proofs.Common.{refl}
use Rattle.sha2.specs.Sha256.{hash_after}
use Rattle.luks_lanes.proofs.pair_hasher.PairHasher.new.Goals as goal

pub returns : goal.returns
unfolding hash_after
returns c = record {
  whole = refl;
  alike = refl;
  total = refl;
  first = refl;
  second = refl;
}
