-- How the places are laid out of a copy in whose metadata something is under way: words of private contracts.
use Rattle.std.specs.Prelude.{◌≡◌, ℕ, ◌+◌, ◌-◌, ◌*◌, ◌^◌, ◌<◌, ◌≤◌, Option, Some, None, min}
use Rattle.luks_area.specs.declared.area.Area.{Area}
use Rattle.luks_rules.specs.Sizes.{keyslots_size}
use Rattle.luks_keeping.specs.Kept.{lead_of}
use Rattle.luks_keeping.specs.Places.{HasPlace}
use Rattle.luks_keeping.specs.declared.places.Places.{Places}
use Rattle.luks_wider.specs.Underways.{content}
use Rattle.luks_wide_reading.specs.declared.copy.UnderwayCopy.{UnderwayCopy}

-- both copies of its header and the region have so many bytes
pub record IsWholeSize (c : UnderwayCopy) (size : ℕ) : Type 0 where
  pub region : ℕ
  pub says : keyslots_size (content c.meta) ≡ Some region
  pub is : size ≡ 2 * c.header.hdr_size + region

-- the places on a device of `total` bytes: both copies, and as much of the region as there is, as one area
pub record IsWholeLaid (c : UnderwayCopy) (total : ℕ) (places : Places) : Type 0 where
  pub lead : places.lead ≡ min (lead_of c.copies) c.header.hdr_size
  pub first : places.first ≡ c.header.hdr_size
  pub second : places.second ≡ c.header.hdr_size
  pub region : ℕ
  pub says : keyslots_size (content c.meta) ≡ Some region
  pub area : Area
  pub start : area.start ≡ 2 * c.header.hdr_size
  pub len : area.len ≡ min region (total - 2 * c.header.hdr_size)
  pub there : HasPlace places 0 area
  pub only : (n : ℕ) (a : Area) → HasPlace places n a → (n ≡ 0) × (a ≡ area)

-- a byte place of the bytes `size` comes before a known size, or before any where none is known
abbrev pub IsBelow : ℕ → Option ℕ → Type 0
IsBelow offset (Some size) = offset < size
IsBelow offset None = Unit {0}

-- the size, or that no device has so many bytes
abbrev pub IsKnownSize : UnderwayCopy → Option ℕ → Type 0
IsKnownSize c (Some size) = IsWholeSize c size
IsKnownSize c None = (size : ℕ) × (IsWholeSize c size × (2 ^ 64 ≤ size))

-- `n` is of this kind, and none below is
abbrev pub IsFirstOf : (ℕ → Type 0) → ℕ → Type 0
IsFirstOf is n = (n < 32) × is n × ((k : ℕ) → k < n → is k → ⊥)
