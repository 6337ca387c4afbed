use Rattle.std.proofs.Common.{◌≡◌, ℕ, ◌*◌, ◌<◌, List, ◌++◌, take, false}
use Rattle.sha2.specs.Hashers.{Holds256}
use Rattle.luks_vouching.specs.Composed.{bordered, differing_before}
use Rattle.luks_vouching.proofs.SearchFacts.{MeetsAfter}
use Rattle.luks_vouching.proofs.borders.least_border.Given as goal

-- `begun` was fed the first `n` sectors of the front, of which `passed` differ, and no border before them meets
-- the checksum, nor their own where it makes nothing new
abbrev pub invariant-loop-n : goal.invariant-loop-n
invariant-loop-n l = record {
  fed : (done : List ℕ) → Holds256 l.hasher done → Holds256 l.begun (done ++ take (512 * l.n) l.front);
  passed : l.passed ≡ differing_before l.front l.rest l.n;
  none : (done : List ℕ) → Holds256 l.hasher done → (m : ℕ) → m < l.n → MeetsAfter l.sum done (bordered l.front l.rest m) → ⊥;
  same : l.is_new ≡ false → (done : List ℕ) → Holds256 l.hasher done → MeetsAfter l.sum done (bordered l.front l.rest l.n) → ⊥;
}
