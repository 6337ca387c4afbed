-- What a place of a disk tells.
use Rattle.std.specs.Prelude.{◌≡◌, ◌⊎◌, ℕ, ◌+◌, ◌<◌, ◌≤◌, List, [], ◌∷◌, Option, None, Some, length, slice_index}
use Rattle.luks_area.specs.Ranges.{part}
use Rattle.luks2_header.specs.Header2.{binary_header_size, hdr_size, IsSound}
use Rattle.luks2_header.specs.Sizes.{IsListed}
use Rattle.luks_rebuilding.specs.declared.place.Place.{Place}
use Rattle.luks_finding.specs.Blocks.{HasText}
use Rattle.luks_finding.specs.Starts.{volume_at, BeginsVolume, HasMetadata, HasSignBefore, IsAmong, IsFirstSign, IsSign, IsWholeCopy}
use Rattle.luks_finding.specs.declared.find_fault.FindFault.{FindFault}
use Rattle.luks_finding.specs.declared.find_fault.FindFault.TheVariants.{Memory, Device}
use Rattle.luks_finding.specs.declared.told.Told.{Told}
use Rattle.luks_finding.specs.declared.told.Told.TheVariants.{Nothing, One, Two}

-- the starts that a place tells
abbrev pub starts_of : Told → List ℕ
starts_of Nothing = []
starts_of (One s) = s ∷ []
starts_of (Two s t) = s ∷ t ∷ []

-- the list has the volumes whose first sign is at the place `p`, in ascending order; each other one with a sign there
-- has one before
pub record AreToldAt (v : List ℕ) (p : ℕ) (list : List ℕ) : Type 0 where
  pub first : (i : ℕ) → i < length list → IsFirstSign v (slice_index list i) p
  pub rising : (i j : ℕ) → i < j → j < length list → slice_index list i < slice_index list j
  pub all : (s : ℕ) → IsSign v s p → HasSignBefore v s p ⊎ IsAmong list s

abbrev pub TellsAt : List ℕ → ℕ → Told → Type 0
TellsAt v p told = AreToldAt v p (starts_of told)

-- the same of the volumes of one kind, of which there is one at most
abbrev pub TellsKind : (ℕ → Type 0) → List ℕ → ℕ → Option ℕ → Type 0
TellsKind kind v p None = (s : ℕ) → kind s → IsSign v s p → HasSignBefore v s p
TellsKind kind v p (Some s) = kind s × IsFirstSign v s p × ((t : ℕ) → kind t → IsSign v t p → t ≡ s)

-- the starts lie at the place `p` or before it, in ascending order
abbrev pub LieBefore : ℕ → Told → Type 0
LieBefore p Nothing = Unit {0}
LieBefore p (One s) = s ≤ p
LieBefore p (Two s t) = (s < t) × (t ≤ p)

-- the starts of a second and of a first copy
abbrev pub joined : Option ℕ → Option ℕ → Told
joined None None = Nothing
joined None (Some t) = One t
joined (Some s) None = One s
joined (Some s) (Some t) = Two s t

-- a binary header at the place `h` is that of the first copy of the volume at `s`, or that of its second
abbrev pub IsFirstAt : ℕ → ℕ → Type 0
IsFirstAt h s = s ≡ h

abbrev pub IsSecondAt : ℕ → ℕ → Type 0
IsSecondAt h s = s < h

-- a sound second copy of the volume `w` stands nearer to its start than `size` bytes
pub record HasNearerCopy (w : List ℕ) (size : ℕ) : Type 0 where
  pub nearer : ℕ
  pub listed : IsListed nearer
  pub below : nearer < size
  pub sound : IsSound w nearer

-- a first copy of this size
abbrev pub first_copy : ℕ → Place
first_copy size = record { size = size; at = 0 }

-- a second copy
abbrev pub second_copy : ℕ → Place
second_copy size = record { size = size; at = size }

-- a copy of the volume at `s` that begins nearer to its start than `size` bytes has metadata
pub record HasNearerMetadata (v : List ℕ) (s size : ℕ) : Type 0 where
  pub copy : Place
  pub near : copy.at < size
  pub has : HasMetadata v s copy

-- one of `near` bytes does, a second one only where it begins so near
abbrev pub HasMetadataOf : List ℕ → ℕ → ℕ → ℕ → Type 0
HasMetadataOf v s near size = HasMetadata v s (first_copy near) ⊎ ((near < size) × HasMetadata v s (second_copy near))

-- a sign of the volume at `s` comes before one of its second copy of this size: a header, a copy or metadata
abbrev pub HasNearer : List ℕ → ℕ → ℕ → Type 0
HasNearer v s size = BeginsVolume v s ⊎ HasNearerCopy (volume_at v s) size ⊎ HasNearerMetadata v s size

-- the size that a binary header at the place `p` names: a listed one, with room for a start so far before it
pub record NamesSize (v : List ℕ) (p size : ℕ) : Type 0 where
  pub listed : IsListed size
  pub room : size ≤ p
  pub whole : p + binary_header_size ≤ length v
  pub is : hdr_size (part v p binary_header_size) ≡ size

-- the size that it names, or that it names none
abbrev pub FindsSize : List ℕ → ℕ → Option ℕ → Type 0
FindsSize v p None = (size : ℕ) → NamesSize v p size → ⊥
FindsSize v p (Some size) = NamesSize v p size

-- the size of a copy that begins at the place `h` and has whole metadata
pub record IsWholeAt (v : List ℕ) (h size : ℕ) : Type 0 where
  pub whole : IsWholeCopy (volume_at v h) (first_copy size)

-- that size, or that there is none
abbrev pub FindsWhole : List ℕ → ℕ → Option ℕ → Type 0
FindsWhole v h None = (size : ℕ) → IsWholeAt v h size → ⊥
FindsWhole v h (Some size) = IsWholeAt v h size

-- memory is taken only where a JSON area may begin at a sector of the disk
abbrev pub IsMemoryOnly : List ℕ → FindFault → Type 0
IsMemoryOnly v Memory = HasText v
IsMemoryOnly v Device = Unit {0}
