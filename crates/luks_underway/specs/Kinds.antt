-- Which objects are in the midst of something, by their types and flags.
use Rattle.std.specs.Prelude.{◌≡◌, ℕ, ◌<◌, List, codes, Bool, true, false, ◌||◌}
use Rattle.std.specs.Option.{option_map_or}
use Rattle.std.specs.Str.{bytes_eq}
use Rattle.serde_json.specs.Data.{Data}
use Rattle.luks_rules.specs.declared.table.Section.TheVariants.{Keyslots, Segments}
use Rattle.luks_rules.specs.declared.table.Outer.TheVariants as outer
use Rattle.luks_rules.specs.Faults.{object_at, type_at}
use Rattle.luks_underway.specs.Segments.{flags_at, has_flag, is_backup}

-- the object is of that type
abbrev pub is_type : Data → List ℕ → Bool
is_type d kind = option_map_or (λ t. bytes_eq t kind) (type_at d outer.Top) false

abbrev pub is_reencrypt : Data → Bool
is_reencrypt d = is_type d (codes "reencrypt")

abbrev pub is_opal : Data → Bool
is_opal d = is_type d (codes "hw-opal") || is_type d (codes "hw-opal-crypt")

-- its data is encrypted, by software or by the disk
abbrev pub needs_digest : Data → Bool
needs_digest d = is_type d (codes "crypt") || is_opal d

-- the part in hand
abbrev pub is_hot : Data → Bool
is_hot d = has_flag (codes "in-reencryption") d

-- a segment that says how the data was or will be, and by which none is read
abbrev pub is_kept_back : Data → Bool
is_kept_back d = is_backup (flags_at d)

abbrev pub has_reencrypt : Data → ℕ → Bool
has_reencrypt j n = option_map_or is_reencrypt (object_at j Keyslots n) false

abbrev pub has_opal : Data → ℕ → Bool
has_opal j n = option_map_or is_opal (object_at j Segments n) false

-- a keyslot says that a reencryption is under way, or a segment that the disk encrypts itself
pub data IsUnderWay (j : Data) : Type 0 where
  reencryption : (n : ℕ) → n < 32 → has_reencrypt j n ≡ true → IsUnderWay j
  opal : (n : ℕ) → n < 32 → has_opal j n ≡ true → IsUnderWay j
