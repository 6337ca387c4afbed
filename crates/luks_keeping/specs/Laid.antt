-- How the places of a header that was read are laid out: words of private contracts.
use Rattle.std.specs.Prelude.{◌≡◌, ℕ, ◌+◌, ◌^◌, ◌<◌, ◌≤◌, List, Option, Some, None, length, min, slice_index_or}
use Rattle.serde_json.specs.Data.{Data as Value}
use Rattle.luks_area.specs.declared.area.Area.{Area}
use Rattle.luks_area.specs.declared.area.AreaName.TheVariants.{Slot}
use Rattle.luks1_header.specs.Header1.{luks1_size}
use Rattle.luks2_header.specs.Selection.{luks1, luks2, Choice}
use Rattle.luks_meta.specs.Content.{content}
use Rattle.luks_reading.specs.Layout1.{Luks1Area}
use Rattle.luks_reading.specs.Layout2.{Luks2Area}
use Rattle.luks_reading.specs.declared.header.Header.{Header}
use Rattle.luks_reading.specs.declared.header.Header.TheVariants.{Luks1, Luks2}
use Rattle.luks_reading.specs.declared.report.Data.{Data}
use Rattle.luks_reading.specs.declared.report.Data.TheVariants.{Elsewhere}
use Rattle.luks_keeping.specs.Backup.{IsBackupSize}
use Rattle.luks_keeping.specs.BackupFaults.{IsShort}
use Rattle.luks_keeping.specs.Kept.{lead_of, IsUsedArea}
use Rattle.luks_keeping.specs.Places.{HasPlace}
use Rattle.luks_keeping.specs.declared.backup_fault.BackupFault.{BackupFault}
use Rattle.luks_keeping.specs.declared.places.Places.{Places}

-- `a` is the key area of the keyslot `n` of the metadata `j`
abbrev pub HasSlot2 : Value → ℕ → Area → Type 0
HasSlot2 j n a = Luks2Area j 0 Elsewhere 0 (Slot n) a

-- or of the header that was read
abbrev pub HasSlot : Header → ℕ → Area → Type 0
HasSlot (Luks1 bytes) n a = IsUsedArea bytes n a
HasSlot (Luks2 copy) n a = HasSlot2 (content copy.meta) n a

-- what is found of the areas of one keyslot
abbrev pub FindsSlot : (Area → Type 0) → Option Area → Type 0
FindsSlot slot None = (a : Area) → slot a → ⊥
FindsSlot slot (Some a) = slot a

-- the areas of the keyslots below `n` are listed by their numbers
pub record HoldsSlots (header : Header) (n : ℕ) (areas : List (Option Area)) : Type 0 where
  pub long : length areas ≡ 32
  pub each : (k : ℕ) → k < n → FindsSlot (HasSlot header k) (slice_index_or areas k None)

-- what counts of its volume
abbrev pub choice_of : Header → Choice
choice_of (Luks1 bytes) = luks1
choice_of (Luks2 copy) = luks2 copy.header.hdr_offset copy.copies

abbrev pub first_size : Header → ℕ
first_size (Luks1 bytes) = luks1_size
first_size (Luks2 copy) = copy.header.hdr_size

abbrev pub second_size : Header → ℕ
second_size (Luks1 bytes) = 0
second_size (Luks2 copy) = copy.header.hdr_size

abbrev pub header_lead : Header → ℕ
header_lead (Luks1 bytes) = 0
header_lead (Luks2 copy) = lead_of copy.copies

-- the places are those of the header
pub record IsLaidOut (header : Header) (places : Places) : Type 0 where
  pub lead : places.lead ≡ min (header_lead header) (first_size header)
  pub first : places.first ≡ first_size header
  pub second : places.second ≡ second_size header
  pub all : (n : ℕ) (a : Area) → HasSlot header n a → HasPlace places n a
  pub only : (n : ℕ) (a : Area) → HasPlace places n a → HasSlot header n a

-- `size` bytes hold the LUKS1 header `h` and the key areas of its keyslots below `n`, and no fewer do
pub record HoldsBelow (h : List ℕ) (n size : ℕ) : Type 0 where
  pub header : luks1_size ≤ size
  pub areas : (k : ℕ) (a : Area) → k < n → Luks1Area h Elsewhere 0 (Slot k) a → a.start + a.len ≤ size
  pub least : (other : ℕ) → luks1_size ≤ other → ((k : ℕ) (a : Area) → k < n → Luks1Area h Elsewhere 0 (Slot k) a → a.start + a.len ≤ other) → size ≤ other

-- no device is as long as the backup
pub record LacksSize (v : List ℕ) (payload : Data) : Type 0 where
  pub size : ℕ
  pub is_size : IsBackupSize v payload size
  pub long : 2 ^ 64 ≤ size

-- the target is shorter than the backup
abbrev pub IsShortFor : List ℕ → Data → ℕ → BackupFault → Type 0
IsShortFor v payload total f = IsShort v payload total
