-- Metadata composed of the bytes of two JSON areas that differ in few.
use Rattle.std.specs.Prelude.{◌≡◌, ◌⊎◌, ℕ, zero, suc, ◌+◌, ◌/◌, ◌%◌, ◌<◌, ◌≤◌, ◌==◌, List, [], ◌∷◌, ◌++◌, All, length, slice_index, slice_set, if◌then◌else◌}

-- each byte is that of one of both areas at its place
pub record IsMixed (first second new : List ℕ) : Type 0 where
  pub long : length new ≡ length first
  pub each : (p : ℕ) → p < length first → (slice_index new p ≡ slice_index first p) ⊎ (slice_index new p ≡ slice_index second p)

-- in how many of the first bytes they differ
abbrev pub differing : List ℕ → List ℕ → ℕ → ℕ
differing first second zero = 0
differing first second (suc p) = differing first second p + (if slice_index first p == slice_index second p then 0 else 1)

-- they differ in at most so many bytes
abbrev pub DifferAt : List ℕ → List ℕ → ℕ → Type 0
DifferAt first second count = differing first second (length first) ≤ count

abbrev pub few_bytes : ℕ
few_bytes = 16

-- ---- by places and a number: words of private contracts

-- each place is below this one
abbrev pub AreInside : ℕ → List ℕ → Type 0
AreInside total places = All (λ place. place < total) places

-- the place is one of these
abbrev pub IsOf : ℕ → List ℕ → Type 0
IsOf p [] = ⊥
IsOf p (place ∷ rest) = (p ≡ place) ⊎ IsOf p rest

-- each of the first bytes that differs is at one of the places
abbrev pub AreAllOf : List ℕ → List ℕ → ℕ → List ℕ → Type 0
AreAllOf first second count places = (p : ℕ) → p < count → (slice_index first p ≡ slice_index second p) ⊎ IsOf p places

-- the places of all of the first bytes that differ
pub record AreDiffering (first second : List ℕ) (count : ℕ) (places : List ℕ) : Type 0 where
  pub many : length places ≡ differing first second count
  pub few : length places ≤ few_bytes
  pub inside : AreInside (length first) places
  pub all : AreAllOf first second count places

-- this place is added to them where the areas differ there
abbrev pub GrowsBy : List ℕ → List ℕ → ℕ → List ℕ → List ℕ → Type 0
GrowsBy first second place old new = ((slice_index first place ≡ slice_index second place) × (new ≡ old))
    ⊎ ((slice_index first place ≡ slice_index second place → ⊥) × (length old < few_bytes) × (new ≡ old ++ place ∷ []))

-- `json` with the second area's bytes at those places that this number names by its binary digits, the lowest first
abbrev pub mixed : List ℕ → List ℕ → ℕ → List ℕ → List ℕ
mixed second [] n json = json
mixed second (place ∷ rest) n json = mixed second rest (n / 2) (if n % 2 == 1 then slice_set json place (slice_index second place) else json)
