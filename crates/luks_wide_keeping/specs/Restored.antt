-- A backup that was made while something was under way, put back onto a volume.
use Rattle.std.specs.Prelude.{◌≡◌, ℕ, ◌<◌, ◌≤◌, List, length, replicate, slice_index, Bool, true, false, ⊤}
use Rattle.luks_area.specs.First.{IsLeast}
use Rattle.luks_area.specs.Ranges.{part, IsAt, IsOfEither, SameBut}
use Rattle.luks2_header.specs.Header2.{hdr_size, header_at}
use Rattle.luks2_header.specs.Selection.{luks2, Chosen}
use Rattle.luks2_header.specs.declared.selection.Copies.{Copies}
use Rattle.luks_reading.specs.Checked.{check_key}
use Rattle.luks_reading.specs.Header.{json_at}
use Rattle.luks_reading.specs.declared.check_fault.CheckFault.{CheckFault}
use Rattle.luks_reading.specs.declared.report.Data.{Data}
use Rattle.luks_reading.specs.declared.report.Data.TheVariants.{Elsewhere}
use Rattle.luks_keeping.specs.Backup.{IsLuks2Size}
use Rattle.luks_keeping.specs.Kept.{lead_of}
use Rattle.luks_keeping.specs.Restored.{IsOfOlder}
use Rattle.luks_keeping.specs.RestoreFaults.{is_restore_failure}
use Rattle.luks_keeping.specs.declared.restore_fault.RestoreFault.TheVariants as restore
use Rattle.luks_wider.specs.Underways.{content}
use Rattle.luks_wide_reading.specs.declared.copy.UnderwayCopy.{UnderwayCopy}
use Rattle.luks_wide_keeping.specs.declared.over.OverUnderway.{OverUnderway}
use Rattle.luks_wide_keeping.specs.declared.restore_fault.UnderwayRestoreFault.{UnderwayRestoreFault}
use Rattle.luks_wide_keeping.specs.declared.restore_fault.UnderwayRestoreFault.TheVariants.{Restore, Progressed}
use Rattle.luks_wide_keeping.specs.declared.standing.Standing.{Standing}
use Rattle.luks_wide_keeping.specs.declared.standing.Standing.TheVariants as standing
use Rattle.luks_wide_keeping.specs.Layout.{FitsUnderway, IsLayoutFault, IsUnderwayFault}
use Rattle.luks_wide_keeping.specs.Standings.{StandsSo}

-- ---- what becomes of the volume

-- the byte place is of both copies of the header of the backup `b` or the region of its key areas, or of an older second copy's first sector, which is
-- cleared
pub record IsOfUnderway (b : List ℕ) (payload : Data) (old : List ℕ) (p : ℕ) : Type 0 where
  pub place : ℕ
  pub copies : Copies
  pub chosen : Chosen b (luks2 place copies)
  pub size : ℕ
  pub is_size : IsLuks2Size (hdr_size (header_at b place)) (json_at b place) size
  pub of_either : IsOfEither (IsAt 0 size) (IsOfOlder b payload (luks2 place copies) old) p

-- `new` is the volume `old` with the bytes that the backup `b` has of the header and the region; what the first sector is where the first copy isn't sound is
-- zeros
pub record IsUnderwayRestored (b : List ℕ) (payload : Data) (old new : List ℕ) : Type 0 where
  pub place : ℕ
  pub copies : Copies
  pub chosen : Chosen b (luks2 place copies)
  pub size : ℕ
  pub is_size : IsLuks2Size (hdr_size (header_at b place)) (json_at b place) size
  pub lead : part new 0 (lead_of copies) ≡ replicate (lead_of copies) 0
  pub kept : (p : ℕ) → lead_of copies ≤ p → p < size → p < length b → p < length new → slice_index new p ≡ slice_index b p
  pub rest : SameBut (IsOfUnderway b payload old) old new

-- ---- why it isn't restored

abbrev pub is_underway_restore_failure : UnderwayRestoreFault → Bool
is_underway_restore_failure (Restore f) = is_restore_failure f
is_underway_restore_failure Progressed = false

-- a header that stands so may be written over
abbrev pub is_over : OverUnderway → Standing → Bool
is_over over standing.Nothing = true
is_over over standing.Another = over.another
is_over over standing.Same = true
is_over over standing.Progressed = over.progressed

-- the backup fits into itself, and onto a volume of `total` bytes
pub record FitsBoth (b : List ℕ) (payload : Data) (total : ℕ) : Type 0 where
  pub own : FitsUnderway b Elsewhere (length b)
  pub there : FitsUnderway b payload total

-- it does, and the header that counts on `t` stands so, and isn't to be written over
pub record IsKeptFromOver (b t : List ℕ) (payload : Data) (over : OverUnderway) (so : Standing) : Type 0 where
  pub fits : FitsBoth b payload (length t)
  pub stands : StandsSo b t so
  pub kept_from : is_over over so ≡ false

-- the first of them is answered, or a device failed
abbrev pub IsUnderwayUnrestored : List ℕ → List ℕ → Data → OverUnderway → UnderwayRestoreFault → Type 0
IsUnderwayUnrestored b t payload over (Restore (restore.NotAccepted f)) = IsLeast check_key (IsUnderwayFault b Elsewhere (length b)) f
IsUnderwayUnrestored b t payload over (Restore (restore.DoesNotFit f)) = FitsUnderway b Elsewhere (length b) × IsLeast check_key (IsUnderwayFault b payload (length t)) f
IsUnderwayUnrestored b t payload over (Restore restore.OtherVolume) = IsKeptFromOver b t payload over standing.Another
IsUnderwayUnrestored b t payload over (Restore restore.Memory) = ⊥
IsUnderwayUnrestored b t payload over (Restore restore.Device) = ⊤
IsUnderwayUnrestored b t payload over Progressed = IsKeptFromOver b t payload over standing.Progressed

-- none of them stands
pub record CanRestoreUnderway (b t : List ℕ) (payload : Data) (over : OverUnderway) : Type 0 where
  pub fits : FitsBoth b payload (length t)
  pub over_it : (so : Standing) → StandsSo b t so → is_over over so ≡ true

-- ---- words of private contracts

-- no fault of the layout is on a device of `total` bytes with the header of the copy
pub record HasNoFault (c : UnderwayCopy) (payload : Data) (total : ℕ) : Type 0 where
  pub none : (f : CheckFault) → IsLayoutFault c.header.hdr_size (content c.meta) payload total f → ⊥

-- the first fault of the volume as it would be, of `total` bytes
abbrev pub IsUnfitThere : UnderwayCopy → Data → ℕ → UnderwayRestoreFault → Type 0
IsUnfitThere c payload total (Restore (restore.DoesNotFit f)) = IsLeast check_key (IsLayoutFault c.header.hdr_size (content c.meta) payload total) f
IsUnfitThere c payload total f = ⊥

-- that of the backup, which has `own` bytes, or else of the volume
abbrev pub IsUnfitEither : UnderwayCopy → Data → ℕ → ℕ → UnderwayRestoreFault → Type 0
IsUnfitEither c payload own total (Restore (restore.NotAccepted f)) = IsLeast check_key (IsLayoutFault c.header.hdr_size (content c.meta) Elsewhere own) f
IsUnfitEither c payload own total (Restore (restore.DoesNotFit f)) = HasNoFault c Elsewhere own × IsLeast check_key (IsLayoutFault c.header.hdr_size (content c.meta) payload total) f
IsUnfitEither c payload own total f = ⊥

-- a header that stands so isn't to be written over
abbrev pub IsBarredBy : OverUnderway → Standing → UnderwayRestoreFault → Type 0
IsBarredBy over so (Restore restore.OtherVolume) = (so ≡ standing.Another) × (is_over over standing.Another ≡ false)
IsBarredBy over so Progressed = (so ≡ standing.Progressed) × (is_over over standing.Progressed ≡ false)
IsBarredBy over so f = ⊥

-- so does the one that counts
abbrev pub IsBarred : List ℕ → List ℕ → OverUnderway → UnderwayRestoreFault → Type 0
IsBarred b t over (Restore restore.OtherVolume) = StandsSo b t standing.Another × (is_over over standing.Another ≡ false)
IsBarred b t over (Restore restore.Device) = ⊤
IsBarred b t over Progressed = StandsSo b t standing.Progressed × (is_over over standing.Progressed ≡ false)
IsBarred b t over f = ⊥
