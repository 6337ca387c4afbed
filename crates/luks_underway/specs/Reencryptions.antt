-- Keyslots of the type `reencrypt` (LUKS2 On-Disk Format 1.1.3, 3.2.2 and 3.2.3): when the object `d` is one, and what the records tell of it.
use Rattle.std.specs.Prelude.{◌≡◌, ◌⊎◌, ℕ, List, codes, Bool, true, false, if◌then◌else◌, Option, Some, None, is_some, option_and_then}
use Rattle.std.specs.Option.{option_map_or}
use Rattle.std.specs.Str.{bytes_eq}
use Rattle.serde_json.specs.Data.{Data}
use Rattle.luks_rules.specs.declared.table.Member.TheVariants as name
use Rattle.luks_rules.specs.declared.table.Outer.TheVariants as outer
use Rattle.luks_rules.specs.declared.table.Rule.TheVariants as rule
use Rattle.luks_rules.specs.Faults.{member_at, type_at}
use Rattle.luks_rules.specs.Reading.{reads, text_of, number_in, decimal_in}
use Rattle.luks_rules.specs.Sizes.{inside_at}
use Rattle.luks_underway.specs.declared.reencryption.Mode.{Mode}
use Rattle.luks_underway.specs.declared.reencryption.Mode.TheVariants as mode
use Rattle.luks_underway.specs.declared.reencryption.Direction.{Direction}
use Rattle.luks_underway.specs.declared.reencryption.Direction.TheVariants.{Forward, Backward}
use Rattle.luks_underway.specs.declared.reencryption.ReencryptArea.{ReencryptArea}
use Rattle.luks_underway.specs.declared.reencryption.Reencryption.{Reencryption}
use Rattle.luks_underway.specs.declared.resilience.Checksum.{Checksum}
use Rattle.luks_underway.specs.declared.resilience.Resilience.{Resilience}
use Rattle.luks_underway.specs.declared.resilience.Resilience.TheVariants as kept_by
use Rattle.luks_underway.specs.Members.{shift_in, unit_in}

-- ---- texts

abbrev pub mode_of : List ℕ → Option Mode
mode_of t =
    if bytes_eq t (codes "reencrypt") then Some mode.Reencrypt
    else if bytes_eq t (codes "encrypt") then Some mode.Encrypt
    else if bytes_eq t (codes "decrypt") then Some mode.Decrypt
    else None

abbrev pub direction_of : List ℕ → Option Direction
direction_of t =
    if bytes_eq t (codes "forward") then Some Forward
    else if bytes_eq t (codes "backward") then Some Backward
    else None

abbrev pub mode_in : Data → Option Mode
mode_in d = option_and_then mode_of (text_of (inside_at outer.Top (codes "mode") d))

abbrev pub direction_in : Data → Option Direction
direction_in d = option_and_then direction_of (text_of (inside_at outer.Top (codes "direction") d))

-- ---- when an object is one

-- the members that tell how checksums are taken, and by how much the data moves
pub record HasChecksum (d : Data) : Type 0 where
  pub hash : is_some (text_of (member_at d outer.Area name.Hash)) ≡ true
  pub unit : is_some (unit_in (member_at d outer.Area name.SectorSize)) ≡ true

abbrev pub HasShift : Data → Type 0
HasShift d = is_some (shift_in (inside_at outer.Area (codes "shift_size") d)) ≡ true

abbrev pub IsAreaType : Data → List ℕ → Type 0
IsAreaType d t = type_at d outer.Area ≡ Some t

-- the area is of a listed type, and has the members of that type
pub data IsResilience (d : Data) : Type 0 where
  nothing : IsAreaType d (codes "none") → IsResilience d
  journal : IsAreaType d (codes "journal") → IsResilience d
  checksum : IsAreaType d (codes "checksum") → HasChecksum d → IsResilience d
  datashift : IsAreaType d (codes "datashift") → HasShift d → IsResilience d
  datashift_journal : IsAreaType d (codes "datashift-journal") → HasShift d → IsResilience d
  datashift_checksum : IsAreaType d (codes "datashift-checksum") → HasShift d → HasChecksum d → IsResilience d

pub record IsReencryptArea (d : Data) : Type 0 where
  pub offset : is_some (decimal_in (member_at d outer.Area name.Offset)) ≡ true
  pub size : is_some (decimal_in (member_at d outer.Area name.Size)) ≡ true
  pub resilience : IsResilience d

pub record IsReencryption (d : Data) : Type 0 where
  pub typed : type_at d outer.Top ≡ Some (codes "reencrypt")
  pub key_size : is_some (number_in 1 1 (member_at d outer.Top name.KeySize)) ≡ true
  pub priority : is_some (reads (rule.MayBeNumber 0 2) (member_at d outer.Top name.Priority)) ≡ true
  pub has_mode : is_some (mode_in d) ≡ true
  pub has_direction : is_some (direction_in d) ≡ true
  pub area : IsReencryptArea d

-- ---- what the records tell

abbrev pub TellsChecksum : Data → Checksum → Type 0
TellsChecksum d k = (text_of (member_at d outer.Area name.Hash) ≡ Some k.hash.now) × (unit_in (member_at d outer.Area name.SectorSize) ≡ Some k.sector_size)

abbrev pub TellsShift : Data → ℕ → Type 0
TellsShift d n = shift_in (inside_at outer.Area (codes "shift_size") d) ≡ Some n

abbrev pub TellsResilience : Data → Resilience → Type 0
TellsResilience d kept_by.Nothing = IsAreaType d (codes "none")
TellsResilience d kept_by.Journal = IsAreaType d (codes "journal")
TellsResilience d (kept_by.Checksum k) = IsAreaType d (codes "checksum") × TellsChecksum d k
TellsResilience d (kept_by.Datashift n) = IsAreaType d (codes "datashift") × TellsShift d n
TellsResilience d (kept_by.DatashiftJournal n) = IsAreaType d (codes "datashift-journal") × TellsShift d n
TellsResilience d (kept_by.DatashiftChecksum k n) = IsAreaType d (codes "datashift-checksum") × TellsChecksum d k × TellsShift d n

abbrev pub TellsReencryptArea : Data → ReencryptArea → Type 0
TellsReencryptArea d k = (decimal_in (member_at d outer.Area name.Offset) ≡ Some k.offset) × (decimal_in (member_at d outer.Area name.Size) ≡ Some k.size)
    × TellsResilience d k.resilience

abbrev pub TellsReencryption : Data → Reencryption → Type 0
TellsReencryption d k = (type_at d outer.Top ≡ Some (codes "reencrypt")) × (number_in 1 1 (member_at d outer.Top name.KeySize) ≡ Some 1)
    × (is_some (reads (rule.MayBeNumber 0 2) (member_at d outer.Top name.Priority)) ≡ true)
    × (mode_in d ≡ Some k.mode) × (direction_in d ≡ Some k.direction) × TellsReencryptArea d k.area
