-- Segments of metadata in the midst of something (LUKS2 On-Disk Format 1.1.3, 3.3 and 4.10): when the object `d` is one, and what the records tell of it.
use Rattle.std.specs.Prelude.{◌≡◌, ℕ, List, codes, nat_eq, Bool, true, false, ◌||◌, Option, Some, None, is_some, option_and_then}
use Rattle.std.specs.List.{starts_with}
use Rattle.std.specs.Option.{option_map_or}
use Rattle.serde_json.specs.Data.{Data, Items, no_items, item}
use Rattle.serde_json.specs.Find.{as_array, as_str}
use Rattle.luks_json.specs.Arrays.{names}
use Rattle.luks_rules.specs.declared.table.Member.TheVariants as name
use Rattle.luks_rules.specs.declared.table.Outer.TheVariants as outer
use Rattle.luks_rules.specs.Accepted.{IsRead}
use Rattle.luks_rules.specs.Faults.{member_at, type_at}
use Rattle.luks_rules.specs.Reading.{text_of, texts_of, number_of, number_in, decimal_in, extent_of, is_sector_size, kept}
use Rattle.luks_rules.specs.Sizes.{inside_at}
use Rattle.luks_rules.specs.Table.{segment_rows}
use Rattle.luks_meta.specs.declared.segments.Encryption.{Encryption}
use Rattle.luks_meta.specs.declared.segments.SegmentKind.{SegmentKind}
use Rattle.luks_meta.specs.declared.segments.SegmentKind.TheVariants as narrow
use Rattle.luks_meta.specs.Says.{extent_field, TellsKind}
use Rattle.luks_underway.specs.declared.flags.Flags.{Flags}
use Rattle.luks_underway.specs.declared.opal.Opal.{Opal}
use Rattle.luks_underway.specs.declared.segments.WideKind.{WideKind}
use Rattle.luks_underway.specs.declared.segments.WideKind.TheVariants.{Crypt, Linear, HwOpal, HwOpalCrypt}
use Rattle.luks_underway.specs.declared.segments.WideSegment.{WideSegment}
use Rattle.luks_underway.specs.Members.{positive_in}

-- ---- flags

abbrev pub flags_at : Data → Option Data
flags_at d = inside_at outer.Top (codes "flags") d

-- they aren't there, or are an array of texts
abbrev pub are_flags : Option Data → Bool
are_flags None = true
are_flags (Some v) = is_some (texts_of (Some v))

abbrev pub has_flag : List ℕ → Data → Bool
has_flag t d = names t (flags_at d)

-- by a flag that begins so cryptsetup knows a backup
abbrev pub is_backup_item : Data → Bool
is_backup_item d = option_map_or (λ t. starts_with nat_eq t (codes "backup-")) (as_str d) false

abbrev pub has_backup : Items → Bool
has_backup no_items = false
has_backup (item d ds) = is_backup_item d || has_backup ds

abbrev pub is_backup : Option Data → Bool
is_backup v = option_map_or has_backup (option_and_then as_array v) false

pub record TellsFlags (d : Data) (k : Flags) : Type 0 where
  pub texts : are_flags (flags_at d) ≡ true
  pub hot : k.in_reencryption ≡ has_flag (codes "in-reencryption") d
  pub previous : k.backup_previous ≡ has_flag (codes "backup-previous") d
  pub final : k.backup_final ≡ has_flag (codes "backup-final") d
  pub moved : k.backup_moved ≡ has_flag (codes "backup-moved-segment") d
  pub kept_back : k.backup ≡ is_backup (flags_at d)

-- ---- what a disk that encrypts itself is told by

abbrev pub opal_number : Data → Option ℕ
opal_number d = number_in 0 4294967295 (inside_at outer.Top (codes "opal_segment_number") d)

abbrev pub opal_key_size : Data → Option ℕ
opal_key_size d = number_in 1 128 (inside_at outer.Top (codes "opal_key_size") d)

abbrev pub opal_size : Data → Option ℕ
opal_size d = positive_in (inside_at outer.Top (codes "opal_segment_size") d)

pub record HasOpal (d : Data) : Type 0 where
  pub number : is_some (opal_number d) ≡ true
  pub key : is_some (opal_key_size d) ≡ true
  pub range : is_some (opal_size d) ≡ true

abbrev pub TellsOpal : Data → Opal → Type 0
TellsOpal d k = (opal_number d ≡ Some k.segment_number) × (opal_key_size d ≡ Some k.key_size) × (opal_size d ≡ Some k.segment_size)

-- ---- how data is encrypted

abbrev pub sector_size_at : Data → Option ℕ
sector_size_at d = option_and_then (kept is_sector_size) (number_of (member_at d outer.Top name.SectorSize))

pub record HasEncryption (d : Data) : Type 0 where
  pub cipher : is_some (text_of (member_at d outer.Top name.Encryption)) ≡ true
  pub tweak : is_some (decimal_in (member_at d outer.Top name.IvTweak)) ≡ true
  pub sector : is_some (sector_size_at d) ≡ true

abbrev pub TellsEncryption : Data → Encryption → Type 0
TellsEncryption d e = (text_of (member_at d outer.Top name.Encryption) ≡ Some e.cipher.now) × (decimal_in (member_at d outer.Top name.IvTweak) ≡ Some e.iv_tweak)
    × (sector_size_at d ≡ Some e.sector_size)

-- ---- the segment

abbrev pub IsOfType : Data → List ℕ → Type 0
IsOfType d t = type_at d outer.Top ≡ Some t

-- where a segment of such a disk lies: it has a length
pub record HasPlace (d : Data) : Type 0 where
  pub offset : is_some (decimal_in (member_at d outer.Top name.Offset)) ≡ true
  pub size : is_some (positive_in (member_at d outer.Top name.Size)) ≡ true

-- it is of one of the two types, with the members of that type
pub data IsOpalKind (d : Data) : Type 0 where
  hardware : IsOfType d (codes "hw-opal") → HasOpal d → IsOpalKind d
  both : IsOfType d (codes "hw-opal-crypt") → HasOpal d → HasEncryption d → IsOpalKind d

-- what the rules of `luks_rules` accept, or a segment of such a disk
pub data IsPlainOrOpal (d : Data) : Type 0 where
  plain : IsRead segment_rows d → IsPlainOrOpal d
  opal : HasPlace d → IsOpalKind d → IsPlainOrOpal d

pub record IsWideSegment (d : Data) : Type 0 where
  pub flags : are_flags (flags_at d) ≡ true
  pub rest : IsPlainOrOpal d

abbrev pub wide_kind : SegmentKind → WideKind
wide_kind (narrow.Crypt e) = Crypt e
wide_kind narrow.Linear = Linear

abbrev pub TellsWideKind : Data → WideKind → Type 0
TellsWideKind d (Crypt e) = TellsKind d (narrow.Crypt e)
TellsWideKind d Linear = TellsKind d narrow.Linear
TellsWideKind d (HwOpal o) = IsOfType d (codes "hw-opal") × TellsOpal d o
TellsWideKind d (HwOpalCrypt o e) = IsOfType d (codes "hw-opal-crypt") × TellsOpal d o × TellsEncryption d e

pub record TellsWideSegment (d : Data) (k : WideSegment) : Type 0 where
  pub offset : decimal_in (member_at d outer.Top name.Offset) ≡ Some k.offset
  pub size : option_and_then extent_of (text_of (member_at d outer.Top name.Size)) ≡ Some (extent_field k.size)
  pub kind : TellsWideKind d k.kind
  pub flags : TellsFlags d k.flags
