-- The key areas of a LUKS1 header that was made, and how its steps follow each other: words of private contracts.
use Rattle.std.specs.Prelude.{◌≡◌, ◌≢◌, ◌⊎◌, ℕ, ◌+◌, ◌<◌, ◌≤◌, List, [], slice_index_or}
use Rattle.luks_area.specs.Area.{AreDisjoint}
use Rattle.luks_area.specs.Ranges.{part, IsAt, IsOfEither, SameBut}
use Rattle.luks_area.specs.declared.area.Area.{Area}
use Rattle.luks1_header.specs.Header1.{luks1_size}
use Rattle.luks1_header.specs.declared.luks1.Luks1.{Luks1}
use Rattle.luks1_header.specs.declared.luks1.Luks1Slot.{Luks1Slot}
use Rattle.luks1_header.specs.declared.luks1.SlotState.TheVariants.{Disabled, Enabled}
use Rattle.luks_writing.specs.Cleared.{cleared_size, IsCleared}
use Rattle.luks1_mending.specs.Areas.{stripes_area}
use Rattle.luks1_rebuilding.specs.Rebuilt.{older_second}

-- the keyslot `n` of the header
abbrev pub any_slot : Luks1Slot
any_slot = record { state = Disabled; iterations = 0; salt = []; key_material_offset = 0; stripes = 0 }

abbrev pub slot_at : Luks1 → ℕ → Luks1Slot
slot_at d n = slice_index_or d.slots n any_slot

-- the keyslot `n` is enabled, and `a` is its key area
pub record IsUsedArea (d : Luks1) (n : ℕ) (a : Area) : Type 0 where
  pub numbered : n < 8
  pub enabled : (slot_at d n).state ≡ Enabled
  pub is : a ≡ stripes_area d.common.key_bytes (slot_at d n).key_material_offset (slot_at d n).stripes

-- the byte place is of the area of the keyslot `n`, or of any
pub record IsOfUsed (d : Luks1) (n p : ℕ) : Type 0 where
  pub area : Area
  pub is : IsUsedArea d n area
  pub at : IsAt area.start area.len p

pub record IsOfUsedAreas (d : Luks1) (p : ℕ) : Type 0 where
  pub number : ℕ
  pub of_slot : IsOfUsed d number p

-- each area lies inside a device of `total` bytes
pub record AreInside (d : Luks1) (total : ℕ) : Type 0 where
  pub inside : (n : ℕ) (a : Area) → IsUsedArea d n a → a.start + a.len ≤ total

-- each lies behind the header, and no two of them meet
pub record AreApart (d : Luks1) : Type 0 where
  pub behind : (n : ℕ) (a : Area) → IsUsedArea d n a → luks1_size ≤ a.start
  pub apart : (m n : ℕ) (a b : Area) → IsUsedArea d m a → IsUsedArea d n b → m ≢ n → AreDisjoint a b

-- each has in `w` the bytes that it has in `s`
abbrev pub HasUsedAreas : Luks1 → List ℕ → List ℕ → Type 0
HasUsedAreas d s w = (n : ℕ) (a : Area) → IsUsedArea d n a → part w a.start a.len ≡ part s a.start a.len

-- the header's bytes stand, and each area
pub record IsWritten (d : Luks1) (bytes s w : List ℕ) : Type 0 where
  pub header : part w 0 luks1_size ≡ bytes
  pub areas : HasUsedAreas d s w

-- the steps behind the clearing leave the first sector as it was until the areas stand
abbrev pub WritesInTurn1 : Luks1 → List ℕ → List ℕ → List ℕ → Type 0
WritesInTurn1 d s old new = (part new 0 cleared_size ≡ part old 0 cleared_size) ⊎ HasUsedAreas d s new

-- and of all steps, of which the clearing is the first
abbrev pub WritesFirst1 : Luks1 → List ℕ → List ℕ → List ℕ → Type 0
WritesFirst1 d s old new = SameBut (IsAt 0 cleared_size) old new ⊎ (IsCleared new 0 ⊎ HasUsedAreas d s new)

-- the places that are written
abbrev pub IsOfWritten : Luks1 → ℕ → Type 0
IsOfWritten d = IsOfEither (IsAt 0 luks1_size) (IsOfEither (IsAt older_second cleared_size) (IsOfUsedAreas d))
