-- How much is hashed to find what one checksum vouches for.
use Rattle.std.specs.Prelude.{◌≡◌, ℕ, ◌*◌, ◌<◌, ◌≤◌, List, length}
use Rattle.luks_vouching.specs.Tried.{IsTried}

-- there are at most `count` of these: so many numbers name them all
abbrev pub AreAtMost : (List ℕ → Type 0) → ℕ → Type 0
AreAtMost P count = (named : ℕ → List ℕ) × ((j : List ℕ) → P j → (k : ℕ) × (k < count) × (named k ≡ j))

-- what is tried has at most `most` bytes together: so many times the bytes of one area
pub record HashesFew (most : ℕ) (first second : List ℕ) : Type 0 where
  pub count : ℕ
  pub all : AreAtMost (IsTried most first second) count
  pub few : count * length first ≤ most
