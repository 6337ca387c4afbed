use Rattle.std.proofs.Common.{◌≡◌}
use Rattle.sha2.specs.Sha256.{hash_after}
use Rattle.luks_rounds.specs.Pair.{lane}
use Rattle.luks_lanes.proofs.pair_hasher.PairHasher.update.Given as goal

-- each lane has taken in its blocks so far
abbrev pub invariant-pairs : goal.invariant-pairs
invariant-pairs l = record {
  first : lane 0 l.lanes ≡ hash_after l.initial.self.first l.first l.i;
  second : lane 1 l.lanes ≡ hash_after l.initial.self.second l.second l.i;
}
