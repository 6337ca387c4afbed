-- What the steps of the search for sound copies answer: words of private contracts.
use Rattle.std.specs.Prelude.{◌≡◌, ℕ, ◌≤◌, ◌+◌, List, Option, None, Some}
use Rattle.luks_area.specs.Ranges.{part}
use Rattle.luks2_header.specs.Header2.{binary_header_size, header_at, HoldsBin2, IsCopyWithin, IsSound}
use Rattle.luks2_header.specs.Sizes.{IsListed}
use Rattle.luks2_header.specs.declared.bin2.Bin2.{Bin2}

-- `h` is the binary header of the sound copy at o
pub record IsSoundCopy (v : List ℕ) (o : ℕ) (h : Bin2) : Type 0 where
  pub sound : IsSound v o
  pub fields : HoldsBin2 (header_at v o) h

-- the binary header of the copy at o, where that copy is sound
abbrev pub FindsSoundCopy : List ℕ → ℕ → Option Bin2 → Type 0
FindsSoundCopy v o None = IsSound v o → ⊥
FindsSoundCopy v o (Some h) = IsSoundCopy v o h

-- `h` is the binary header of the sound copy at the least listed place
pub record IsLeastCopy (v : List ℕ) (h : Bin2) : Type 0 where
  pub listed : IsListed h.hdr_offset
  pub copy : IsSoundCopy v h.hdr_offset h
  pub least : (p : ℕ) → IsListed p → IsSound v p → h.hdr_offset ≤ p

-- the listed places have been searched for a sound copy
abbrev pub FindsSecondCopy : List ℕ → Option Bin2 → Type 0
FindsSecondCopy v None = (p : ℕ) → IsListed p → IsSound v p → ⊥
FindsSecondCopy v (Some h) = IsLeastCopy v h

-- the copy that was found, if one was, has a listed size and lies inside a device of `total` bytes
abbrev pub IsFoundWithin : ℕ → Option Bin2 → Type 0
IsFoundWithin total None = Unit {0}
IsFoundWithin total (Some h) = IsCopyWithin total h

-- the bytes of the JSON area that are kept of a copy: all of it, where the copy has the least size
abbrev pub kept_size : ℕ
kept_size = 12288

-- they follow the binary header of the copy at o
abbrev pub kept_at : List ℕ → ℕ → List ℕ
kept_at v o = part v (o + binary_header_size) kept_size

-- the copy at o begins with its binary header, `front`, and with `kept` of its JSON area
pub record IsBegun (v : List ℕ) (o : ℕ) (front kept : List ℕ) : Type 0 where
  pub head : front ≡ header_at v o
  pub json : kept ≡ kept_at v o

-- `json` is what is kept of the copy with the binary header `h`
abbrev pub KeepsJson : List ℕ → List ℕ → Bin2 → Type 0
KeepsJson v json h = json ≡ kept_at v h.hdr_offset
