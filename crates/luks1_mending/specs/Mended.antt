-- What is made of a keyslot that isn't kept: a disabled one, in the pattern of those that are, else at its
-- usual place. The volume has `total` bytes, the key `k`.
use Rattle.std.specs.Prelude.{◌≡◌, ◌⊎◌, ℕ, ◌+◌, ◌-◌, ◌*◌, ◌^◌, ◌<◌, ◌≤◌, List, replicate}
use Rattle.luks_area.specs.Area.{IsInside, Meet}
use Rattle.luks_area.specs.declared.area.Area.{Area}
use Rattle.luks1_header.specs.Header1.{entry, luks1_size, IsEntry}
use Rattle.luks1_header.specs.declared.luks1.Luks1Slot.{Luks1Slot}
use Rattle.luks1_header.specs.declared.luks1.SlotState.TheVariants.{Disabled}
use Rattle.luks1_mending.specs.Areas.{own_area, sector_of, stripes_area, stripes_of, usual_sector, usual_stripes}
use Rattle.luks1_mending.specs.Kept.{IsKept}

-- the keyslots `a` and `a + 1` are kept, have as many stripes, and stand one behind the other
pub record IsPair (h : List ℕ) (k total a : ℕ) : Type 0 where
  pub one : IsKept h k total a
  pub next : IsKept h k total (a + 1)
  pub alike : stripes_of h (a + 1) ≡ stripes_of h a
  pub rising : sector_of h a < sector_of h (a + 1)

-- and no pair before them does
pub record IsFirstPair (h : List ℕ) (k total a : ℕ) : Type 0 where
  pub pair : IsPair h k total a
  pub first : (b : ℕ) → IsPair h k total b → a ≤ b

-- their distance in sectors
abbrev pub stride : List ℕ → ℕ → ℕ
stride h a = sector_of h (a + 1) - sector_of h a

-- the sector is as many strides from the keyslot `a` as the number `n` is from `a`
abbrev pub IsInStep : List ℕ → ℕ → ℕ → ℕ → Type 0
IsInStep h a n sector = sector + a * stride h a ≡ sector_of h a + n * stride h a

-- the area lies behind the header and inside the volume, and meets that of no keyslot that is kept
pub record IsFree (h : List ℕ) (k total : ℕ) (area : Area) : Type 0 where
  pub behind : luks1_size ≤ area.start
  pub inside : IsInside area total
  pub apart : (m : ℕ) → IsKept h k total m → Meet (own_area h k m) area → ⊥

-- the place of the keyslot `n` in the pattern of the first pair: the same stride and as many stripes
pub record IsInPattern (h : List ℕ) (k total n sector stripes : ℕ) : Type 0 where
  pub pair : ℕ
  pub first : IsFirstPair h k total pair
  pub in_step : IsInStep h pair n sector
  pub small : sector < 2 ^ 32
  pub alike : stripes ≡ stripes_of h pair
  pub free : IsFree h k total (stripes_area k sector stripes)

-- the pattern gives it none
abbrev pub LacksPattern : List ℕ → ℕ → ℕ → ℕ → Type 0
LacksPattern h k total n = (sector stripes : ℕ) → IsInPattern h k total n sector stripes → ⊥

-- its usual place
pub record IsUsualPlace (k n sector stripes : ℕ) : Type 0 where
  pub sector_is : sector ≡ usual_sector k n
  pub stripes_are : stripes ≡ usual_stripes

-- the place that the keyslot `n` gets
abbrev pub IsNewPlace : List ℕ → ℕ → ℕ → ℕ → ℕ → ℕ → Type 0
IsNewPlace h k total n sector stripes =
    IsInPattern h k total n sector stripes ⊎ (LacksPattern h k total n × IsUsualPlace k n sector stripes)

-- a disabled keyslot at that place
pub record IsMended (h : List ℕ) (k total n : ℕ) (s : Luks1Slot) : Type 0 where
  pub state : s.state ≡ Disabled
  pub iterations : s.iterations ≡ 0
  pub salt : s.salt ≡ replicate 32 0
  pub place : IsNewPlace h k total n s.key_material_offset s.stripes

-- what the keyslot `n` becomes: it is kept as it is, or mended
abbrev pub IsMadeSlot : List ℕ → ℕ → ℕ → ℕ → Luks1Slot → Type 0
IsMadeSlot h k total n s =
    (IsKept h k total n × IsEntry (entry h n) s) ⊎ ((IsKept h k total n → ⊥) × IsMended h k total n s)
