-- A backup of the header of a volume in whose metadata something is under way: of one moment, with the area in which the reencryption keeps how to go on.
use Rattle.std.specs.Prelude.{◌≡◌, ℕ, ◌<◌, ◌≤◌, List, length, replicate, slice_index, ⊤}
use Rattle.luks_area.specs.First.{IsLeast}
use Rattle.luks_area.specs.Ranges.{part, IsAt, SameBut}
use Rattle.luks2_header.specs.Header2.{hdr_size, header_at}
use Rattle.luks2_header.specs.Selection.{luks2, Chosen}
use Rattle.luks2_header.specs.declared.selection.Copies.{Copies}
use Rattle.luks_reading.specs.Header.{json_at}
use Rattle.luks_reading.specs.declared.report.Data.TheVariants.{Elsewhere}
use Rattle.luks_keeping.specs.Backup.{IsLuks2Size}
use Rattle.luks_keeping.specs.BackupFaults.{backup_key, IsShort}
use Rattle.luks_keeping.specs.Kept.{lead_of}
use Rattle.luks_keeping.specs.declared.backup_fault.BackupFault.{BackupFault}
use Rattle.luks_keeping.specs.declared.backup_fault.BackupFault.TheVariants.{NotAccepted, TooSmall, Memory, Device}
use Rattle.luks_wide_keeping.specs.Layout.{IsUnderwayFault}

-- ---- what is made

-- `new` begins with both copies of the header of the volume `v` and the whole region of its key areas, byte by byte, whichever of these are in use; a byte
-- that the volume hasn't is zero, and so is the first sector where the first copy isn't sound. All behind is that of `old`
pub record IsUnderwayBackup (v old new : List ℕ) : Type 0 where
  pub place : ℕ
  pub copies : Copies
  pub chosen : Chosen v (luks2 place copies)
  pub size : ℕ
  pub is_size : IsLuks2Size (hdr_size (header_at v place)) (json_at v place) size
  pub within : size ≤ length new
  pub lead : part new 0 (lead_of copies) ≡ replicate (lead_of copies) 0
  pub kept : (p : ℕ) → lead_of copies ≤ p → p < size → slice_index new p ≡ slice_index v p
  pub rest : SameBut (IsAt 0 size) old new

-- ---- why none is made

-- the faults of making one of the volume `v` on a target of `total` bytes
abbrev pub IsUnderwayBackupFault : List ℕ → ℕ → BackupFault → Type 0
IsUnderwayBackupFault v total (NotAccepted f) = IsUnderwayFault v Elsewhere (length v) f
IsUnderwayBackupFault v total TooSmall = IsShort v Elsewhere total
IsUnderwayBackupFault v total Memory = ⊥
IsUnderwayBackupFault v total Device = ⊥

-- the first of them is answered, or a device failed
abbrev pub IsUnderwayUnmade : List ℕ → ℕ → BackupFault → Type 0
IsUnderwayUnmade v total Memory = ⊥
IsUnderwayUnmade v total Device = ⊤
IsUnderwayUnmade v total f = IsLeast backup_key (IsUnderwayBackupFault v total) f

-- none of them stands
pub record CanBackUpUnderway (v : List ℕ) (total : ℕ) : Type 0 where
  pub none : (f : BackupFault) → IsUnderwayBackupFault v total f → ⊥
