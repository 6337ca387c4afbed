-- The metadata that counts of a LUKS2 volume, its keyslots and their areas (LUKS2 On-Disk Format
-- 1.1, 3.1 and 3.2).
use Rattle.std.specs.Prelude.{◌≡◌, ℕ, ◌<◌, ◌≤◌, List, codes, true, is_some, Option, Some, None}
use Rattle.serde_json.specs.Data.{Data as Value}
use Rattle.luks_area.specs.declared.area.Area.{Area}
use Rattle.luks2_header.specs.declared.selection.Copies.{Copies}
use Rattle.luks2_header.specs.Selection.{luks2, Chosen}
use Rattle.luks_rules.specs.declared.table.Outer.TheVariants as outer
use Rattle.luks_rules.specs.declared.table.Section.TheVariants.{Keyslots, Tokens}
use Rattle.luks_rules.specs.Accepted.{HasObject}
use Rattle.luks_rules.specs.Faults.{object_at}
use Rattle.luks_rules.specs.MetaFault.{Json}
use Rattle.luks_rules.specs.Reading.{number_in}
use Rattle.luks_rules.specs.Sizes.{inside_at}
use Rattle.luks_making.specs.Conditions.{IsFree}
use Rattle.luks_reading.specs.Header.{json_at}
use Rattle.luks_reading.specs.Layout2.{slot_number}

-- the copy at the place `o` of the volume `v` counts, and its JSON area holds the value `j`
pub record HasMetadata (v : List ℕ) (o : ℕ) (j : Value) : Type 0 where
  pub copies : Copies
  pub chosen : Chosen v (luks2 o copies)
  pub holds : Json (json_at v o) j

-- ---- keyslots in use and free

abbrev pub IsInUse : Value → ℕ → Type 0
IsInUse j n = (n < 32) × (is_some (object_at j Keyslots n) ≡ true)

pub record IsLeastFree (j : Value) (n : ℕ) : Type 0 where
  pub free : IsFree j n
  pub least : (m : ℕ) → IsFree j m → n ≤ m

-- the keyslot that an addition makes: the one that is asked for, or else the least that is free
abbrev pub IsNewKeyslot : Value → Option ℕ → ℕ → Type 0
IsNewKeyslot j (Some t) n = n ≡ t
IsNewKeyslot j None n = IsLeastFree j n

-- ---- tokens that are there, and numbers that are free (LUKS2 On-Disk Format 1.1, 3.5)

abbrev pub HasToken : Value → ℕ → Type 0
HasToken j n = (n < 32) × (is_some (object_at j Tokens n) ≡ true)

abbrev pub IsFreeToken : Value → ℕ → Type 0
IsFreeToken j n = (n < 32) × (object_at j Tokens n ≡ None)

pub record IsLeastFreeToken (j : Value) (n : ℕ) : Type 0 where
  pub free : IsFreeToken j n
  pub least : (m : ℕ) → IsFreeToken j m → n ≤ m

-- the number of a token that is added: the one that is asked for, or else the least that is free
abbrev pub IsNewToken : Value → Option ℕ → ℕ → Type 0
IsNewToken j (Some t) n = n ≡ t
IsNewToken j None n = IsLeastFreeToken j n

-- ---- what a keyslot says

-- the keyslot `n` has a key of `key_bytes` bytes in `stripes` stripes
pub record HasStripes (j : Value) (n key_bytes stripes : ℕ) : Type 0 where
  pub object : Value
  pub there : HasObject j Keyslots n object
  pub key_bytes_are : number_in 1 128 (inside_at outer.Top (codes "key_size") object) ≡ Some key_bytes
  pub stripes_are : number_in 1 4294967295 (inside_at outer.Af (codes "stripes") object) ≡ Some stripes

-- the area of the keyslot `n`
abbrev pub IsKeyArea : Value → ℕ → Area → Type 0
IsKeyArea j n a =
    (n < 32) × (slot_number j n (codes "offset") ≡ Some a.start) × (slot_number j n (codes "size") ≡ Some a.len)
