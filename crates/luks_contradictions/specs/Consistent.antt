-- When what is under way doesn't contradict itself (LUKS2 On-Disk Format 1.1.3, 3.3, 4.9 and 4.10, and what cryptsetup 2.6 demands).
use Rattle.std.specs.Prelude.{◌≡◌, ◌⊎◌, ℕ, ◌+◌, ◌<◌, ◌≤◌, List, codes, nat_eq, Bool, true, false, ◌||◌, Option, Some, None, ⊤}
use Rattle.std.specs.List.{starts_with}
use Rattle.std.specs.Option.{option_map_or}
use Rattle.serde_json.specs.Data.{Data, Items, no_items, item}
use Rattle.serde_json.specs.Find.{as_array, as_str}
use Rattle.luks_json.specs.Arrays.{names}
use Rattle.luks_rules.specs.declared.table.Member.TheVariants as name
use Rattle.luks_rules.specs.declared.table.Outer.TheVariants as outer
use Rattle.luks_rules.specs.declared.table.Section.TheVariants.{Segments}
use Rattle.luks_rules.specs.Accepted.{HasObject}
use Rattle.luks_rules.specs.Faults.{member_at, type_at}
use Rattle.luks_rules.specs.Reading.{dynamic, whole, decimal_in, extent_of, number_of, text_of}
use Rattle.luks_underway.specs.Kinds.{has_opal, has_reencrypt, is_hot, is_kept_back}
use Rattle.luks_underway.specs.Requirements.{mandatory_in}
use Rattle.luks_underway.specs.Segments.{has_flag}
use Rattle.std.specs.Prelude.{option_and_then}

-- ---- requirements

abbrev pub is_online_item : Data → Bool
is_online_item d = option_map_or (λ t. starts_with nat_eq t (codes "online-reencrypt")) (as_str d) false

abbrev pub has_online : Items → Bool
has_online no_items = false
has_online (item d ds) = is_online_item d || has_online ds

-- the metadata asks that a reencryption is known, whatever version follows
abbrev pub requires_reencryption : Data → Bool
requires_reencryption j = option_map_or has_online (option_and_then as_array (mandatory_in j)) false

abbrev pub requires_opal : Data → Bool
requires_opal j = names (codes "opal") (mandatory_in j)

-- ---- where segments lie

-- the segment `d` begins at `start`, and ends at `end`, or goes on to the end of the device
pub record Lies (d : Data) (start : ℕ) (end : Option ℕ) : Type 0 where
  pub begins : decimal_in (member_at d outer.Top name.Offset) ≡ Some start
  pub ends : (n : ℕ) → end ≡ Some n → (size : ℕ) × (option_and_then extent_of (text_of (member_at d outer.Top name.Size)) ≡ Some (whole size)) × (n ≡ start + size)
  pub goes_on : end ≡ None → option_and_then extent_of (text_of (member_at d outer.Top name.Size)) ≡ Some dynamic

abbrev pub IsBefore : Option ℕ → ℕ → Type 0
IsBefore None n = ⊥
IsBefore (Some end) n = end ≤ n

abbrev pub EndsWithin : Option ℕ → Option ℕ → Type 0
EndsWithin end None = ⊤
EndsWithin None (Some most) = ⊥
EndsWithin (Some end) (Some most) = end ≤ most

abbrev pub IsWithin : Data → Data → Type 0
IsWithin d whole_of = (start least : ℕ) (end most : Option ℕ) → Lies d start end → Lies whole_of least most → (least ≤ start) × EndsWithin end most

abbrev pub IsApart : Data → Data → Type 0
IsApart d e = (start at : ℕ) (end stop : Option ℕ) → Lies d start end → Lies e at stop → IsBefore end at ⊎ IsBefore stop start

-- as cryptsetup compares a segment with a backup of it
pub record IsLike (d e : Data) : Type 0 where
  pub kind : type_at d outer.Top ≡ type_at e outer.Top
  pub cipher : text_of (member_at d outer.Top name.Encryption) ≡ text_of (member_at e outer.Top name.Encryption)
  pub sector : number_of (member_at d outer.Top name.SectorSize) ≡ number_of (member_at e outer.Top name.SectorSize)

-- ---- the segments of a reencryption

-- the segment `n` has the flag, and no other segment has it
pub record IsOnly (j : Data) (flag : List ℕ) (n : ℕ) (d : Data) : Type 0 where
  pub held : HasObject j Segments n d
  pub has : has_flag flag d ≡ true
  pub backup : is_kept_back d ≡ true
  pub only : (m : ℕ) (e : Data) → HasObject j Segments m e → is_kept_back e ≡ true → has_flag flag e ≡ true → m ≡ n

-- a segment that data is read by
pub record IsInUse (j : Data) (n : ℕ) (d : Data) : Type 0 where
  pub held : HasObject j Segments n d
  pub used : is_kept_back d ≡ false

-- how the data was, how it will be, and what lies between
pub record IsParted (j : Data) : Type 0 where
  pub old_number : ℕ
  pub old : Data
  pub new_number : ℕ
  pub new : Data
  pub is_old : IsOnly j (codes "backup-previous") old_number old
  pub is_new : IsOnly j (codes "backup-final") new_number new
  pub moved : (n m : ℕ) (d e : Data) → HasObject j Segments n d → HasObject j Segments m e → is_kept_back d ≡ true → is_kept_back e ≡ true
      → has_flag (codes "backup-moved-segment") d ≡ true → has_flag (codes "backup-moved-segment") e ≡ true → n ≡ m
  pub one_hot : (n m : ℕ) (d e : Data) → IsInUse j n d → IsInUse j m e → is_hot d ≡ true → is_hot e ≡ true → n ≡ m
  -- numbered from 0 on, those in use before the others, and one in use at least
  pub first : (d : Data) × IsInUse j 0 d
  pub no_gap : (n m : ℕ) (d : Data) → HasObject j Segments n d → m < n → (e : Data) × HasObject j Segments m e
  pub in_front : (n m : ℕ) (d e : Data) → IsInUse j n d → HasObject j Segments m e → m < n → is_kept_back e ≡ false
  -- each in use is like one of the two, the part in hand like the new one and inside it
  pub like : (n : ℕ) (d : Data) → IsInUse j n d → is_hot d ≡ false → IsLike d new ⊎ IsLike d old
  pub hot_like : (n : ℕ) (d : Data) → IsInUse j n d → is_hot d ≡ true → IsLike d new
  pub hot_within : (n : ℕ) (d : Data) → IsInUse j n d → is_hot d ≡ true → IsWithin d new
  -- the last alone goes on to the end, and no two meet
  pub fixed : (n m : ℕ) (d e : Data) (start : ℕ) → IsInUse j n d → IsInUse j m e → n < m → Lies d start None → ⊥
  pub apart : (n m : ℕ) (d e : Data) → IsInUse j n d → IsInUse j m e → n < m → IsApart d e

-- what is under way doesn't contradict itself
pub record IsConsistent (j : Data) : Type 0 where
  pub required : (n : ℕ) → n < 32 → has_reencrypt j n ≡ true → requires_reencryption j ≡ true
  pub opal_required : (n : ℕ) → n < 32 → has_opal j n ≡ true → requires_opal j ≡ true
  pub one : (n m : ℕ) → n < 32 → m < 32 → has_reencrypt j n ≡ true → has_reencrypt j m ≡ true → n ≡ m
  pub parted : (n : ℕ) → n < 32 → has_reencrypt j n ≡ true → IsParted j
