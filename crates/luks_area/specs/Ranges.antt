-- A volume is a list of bytes. These words speak of the bytes at a place; what follows from them is
-- in RangeFacts.
use Rattle.std.specs.Prelude.{◌≡◌, ℕ, ◌+◌, ◌<◌, ◌≤◌, List, ◌++◌, ◌⊎◌, length, take, drop, slice_index}

-- the `len` bytes of the volume `v` from the place `at` on (fewer where the volume ends)
abbrev pub part : List ℕ → ℕ → ℕ → List ℕ
part v at len = take len (drop at v)

-- the volume `v` with the bytes from `at` on replaced by `bytes`
abbrev pub written : List ℕ → ℕ → List ℕ → List ℕ
written v at bytes = take at v ++ bytes ++ drop (at + length bytes) v

-- the two volumes have one length and agree outside the `len` bytes at `at`
pub record SameOutside (old new : List ℕ) (at len : ℕ) : Type 0 where
  pub length_same : length new ≡ length old
  pub before : take at new ≡ take at old
  pub after : drop (at + len) new ≡ drop (at + len) old

-- the place `p` lies in the `len` bytes from `start` on
abbrev pub IsAt : ℕ → ℕ → ℕ → Type 0
IsAt start len p = (start ≤ p) × (p < start + len)

-- the place `p` is of one of the two sets of places
abbrev pub IsOfEither : (ℕ → Type 0) → (ℕ → Type 0) → ℕ → Type 0
IsOfEither S T p = S p ⊎ T p

-- the two volumes have one length and agree at each place that isn't of the set `touched`
pub record SameBut (touched : ℕ → Type 0) (old new : List ℕ) : Type 0 where
  pub length_same : length new ≡ length old
  pub each : (p : ℕ) → (touched p → ⊥) → slice_index new p ≡ slice_index old p
