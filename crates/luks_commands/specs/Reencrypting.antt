-- Whether a volume is in the midst of a reencryption: of LUKS1 by its magic, of LUKS2 by its metadata (LUKS2 On-Disk Format 1.1, 3.2.5 and 3.5; cryptsetup's
-- requirements `online-reencrypt` and `offline-reencrypt`).
use Rattle.std.specs.Prelude.{◌≡◌, ◌⊎◌, ℕ, ◌<◌, ◌≤◌, List, length, nat_eq, codes, Bool, true, false, ◌||◌, Option, Some, None, option_and_then, ⊤}
use Rattle.std.specs.List.{starts_with}
use Rattle.std.specs.Option.{option_map_or}
use Rattle.std.specs.Str.{bytes_eq}
use Rattle.serde_json.specs.Data.{Data as Value, Items, no_items, item}
use Rattle.serde_json.specs.Find.{get, as_str, as_array}
use Rattle.luks_area.specs.Ranges.{part}
use Rattle.luks2_header.specs.Selection.{luks2, nothing, Chosen}
use Rattle.luks2_header.specs.declared.selection.Copies.{Copies}
use Rattle.luks_json.specs.AreaText.{Json}
use Rattle.luks_rules.specs.Faults.{object_at, section_at, type_at}
use Rattle.luks_rules.specs.declared.table.Outer.TheVariants.{Top}
use Rattle.luks_rules.specs.declared.table.Section.TheVariants.{Config, Keyslots}
use Rattle.luks_reading.specs.Header.{json_at}
use Rattle.luks_signatures.specs.Reencryption.{IsReencrypting as IsReencryptingLuks1}
use Rattle.luks_commands.specs.declared.standing.Bar.{Bar}
use Rattle.luks_commands.specs.declared.standing.Bar.TheVariants.{Memory, Device}
use Rattle.luks_commands.specs.declared.reencrypting.JsonPlace.{JsonPlace}

-- ---- by the metadata's value

-- the object is of the type `reencrypt`
abbrev pub has_reencrypt_type : Value → Bool
has_reencrypt_type d = option_map_or (λ t. bytes_eq t (codes "reencrypt")) (type_at d Top) false

-- the keyslot `n` is
abbrev pub is_reencrypting_slot : Value → ℕ → Bool
is_reencrypting_slot j n = option_map_or has_reencrypt_type (object_at j Keyslots n) false

-- a text is a requirement of a reencryption: it begins so, whatever version follows
abbrev pub is_reencryption : List ℕ → Bool
is_reencryption t = starts_with nat_eq t (codes "online-reencrypt") || starts_with nat_eq t (codes "offline-reencrypt")

abbrev pub is_reencryption_item : Value → Bool
is_reencryption_item d = option_map_or is_reencryption (as_str d) false

abbrev pub asks_reencryption : Items → Bool
asks_reencryption no_items = false
asks_reencryption (item d ds) = is_reencryption_item d || asks_reencryption ds

-- the value is an array that has one
abbrev pub is_asking : Value → Bool
is_asking d = option_map_or asks_reencryption (as_array d) false

-- the array `config.requirements.mandatory` has one
abbrev pub mandatory_in : Value → Option Value
mandatory_in j = option_and_then (get (codes "mandatory")) (option_and_then (get (codes "requirements")) (section_at j Config))

abbrev pub requires_reencryption : Value → Bool
requires_reencryption j = option_map_or is_asking (mandatory_in j) false

-- a keyslot is of that type
abbrev pub HasReencryptingSlot : Value → Type 0
HasReencryptingSlot j = (n : ℕ) × (n < 32) × (is_reencrypting_slot j n ≡ true)

-- a keyslot or a requirement is of that kind; which rules of the metadata it meets beside isn't asked
abbrev pub IsReencryptingValue : Value → Type 0
IsReencryptingValue j = HasReencryptingSlot j ⊎ (requires_reencryption j ≡ true)

-- the JSON area holds such a value
pub record IsReencryptingArea (area : List ℕ) : Type 0 where
  pub value : Value
  pub held : Json area value
  pub is : IsReencryptingValue value

-- ---- by the volume's bytes

-- The JSON area of the metadata of the volume `v`: of the LUKS2 copy that counts; where no header counts, what stands where the
-- first copy of the least size has it.
pub data IsMetadataArea (v area : List ℕ) : Type 0 where
  counts : (place : ℕ) (copies : Copies) → Chosen v (luks2 place copies) → area ≡ json_at v place → IsMetadataArea v area
  lost : Chosen v nothing → 16384 ≤ length v → area ≡ part v 4096 12288 → IsMetadataArea v area

-- a volume of LUKS2 is in the midst of a reencryption, by its metadata
pub record IsReencryptingLuks2 (v : List ℕ) : Type 0 where
  pub area : List ℕ
  pub is_area : IsMetadataArea v area
  pub is : IsReencryptingArea area

-- so is a volume: one of LUKS1 by what cryptsetup has written in the place of its magic
abbrev pub IsReencrypting : List ℕ → Type 0
IsReencrypting v = IsReencryptingLuks1 v ⊎ IsReencryptingLuks2 v

-- memory is taken for the metadata alone
abbrev pub IsUnaskedMetadata : List ℕ → Type 0
IsUnaskedMetadata v = (area : List ℕ) × IsMetadataArea v area

-- ---- words of private contracts

-- why it isn't told whether the volume `v` is in the midst of a reencryption
abbrev pub IsUntoldMetadata : Type 0 → List ℕ → Bar → Type 0
IsUntoldMetadata tells v Memory = tells → IsUnaskedMetadata v
IsUntoldMetadata tells v Device = ⊤
IsUntoldMetadata tells v bar = ⊥

abbrev pub IsFromOutside : Bar → Type 0
IsFromOutside Memory = ⊤
IsFromOutside Device = ⊤
IsFromOutside bar = ⊥

-- what is found of the place of that area: it, or that the volume has none
abbrev pub FindsMetadata : List ℕ → Option JsonPlace → Type 0
FindsMetadata v None = (area : List ℕ) → IsMetadataArea v area → ⊥
FindsMetadata v (Some place) = IsMetadataArea v (part v place.start place.len)
