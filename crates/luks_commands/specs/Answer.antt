-- What each answer of a command prints, and the exit status that it ends with.
use Rattle.std.specs.Prelude.{◌≡◌, ◌⊎◌, ℕ, ◌+◌, List, ◌++◌, codes, Option, Some, None, IfSome, Bool, true, false, string_bytes}
use Rattle.std.specs.Fmt.{decimal}
use Rattle.std.specs.Io.KnownBytes.{Appends}
use Rattle.luks_reading.specs.declared.report.Version.{Version}
use Rattle.luks_reading.specs.declared.report.Version.TheVariants.{Luks1, Luks2}
use Rattle.luks_reading.specs.declared.check_fault.CheckFault.{CheckFault}
use Rattle.luks_reading.specs.declared.check_fault.CheckFault.TheVariants as checking
use Rattle.luks_reading.specs.declared.key_fault.KeyFault.{KeyFault}
use Rattle.luks_reading.specs.declared.key_fault.KeyFault.TheVariants as judging
use Rattle.luks_reading.specs.declared.open_fault.OpenFault.{OpenFault}
use Rattle.luks_reading.specs.declared.open_fault.OpenFault.TheVariants as opening
use Rattle.luks_reading.specs.FaultTexts.{check_fault_text, key_fault_text, open_fault_text}
use Rattle.luks_edit.specs.declared.edit_fault.EditFault.{EditFault}
use Rattle.luks_edit.specs.declared.edit_fault.EditFault.TheVariants as editing
use Rattle.luks_edit.specs.FaultTexts.{edit_fault_text}
use Rattle.luks_formatting.specs.declared.format_fault.FormatFault.{FormatFault}
use Rattle.luks_formatting.specs.declared.format_fault.FormatFault.TheVariants as formatting
use Rattle.luks_formatting.specs.FormatFaults.{fault_text as format_fault_text}
use Rattle.luks_converting.specs.declared.convert_fault.ConvertFault.{ConvertFault}
use Rattle.luks_converting.specs.declared.convert_fault.ConvertFault.TheVariants as converting
use Rattle.luks_converting.specs.FaultTexts.{convert_fault_text}
use Rattle.luks_rebuilding.specs.declared.rebuild_fault.RebuildFault.{RebuildFault}
use Rattle.luks_rebuilding.specs.declared.rebuild_fault.RebuildFault.TheVariants as rebuilding
use Rattle.luks_rebuilding.specs.FaultTexts.{rebuild_fault_text}
use Rattle.luks1_rebuilding.specs.declared.rebuild_fault.Rebuild1Fault.{Rebuild1Fault}
use Rattle.luks1_rebuilding.specs.declared.rebuild_fault.Rebuild1Fault.TheVariants as rebuilding1
use Rattle.luks1_rebuilding.specs.FaultTexts.{rebuild_fault_text as rebuild1_fault_text}
use Rattle.luks_keeping.specs.ComparisonTexts.{comparison_text, is_current}
use Rattle.luks_keeping.specs.declared.backup_fault.BackupFault.{BackupFault}
use Rattle.luks_keeping.specs.declared.backup_fault.BackupFault.TheVariants as backing_up
use Rattle.luks_keeping.specs.declared.restore_fault.RestoreFault.{RestoreFault}
use Rattle.luks_keeping.specs.declared.restore_fault.RestoreFault.TheVariants as restoring
use Rattle.luks_keeping.specs.FaultTexts.{backup_fault_text, restore_fault_text}
use Rattle.luks_keeping.specs.LostTexts.{rescued_text}
use Rattle.luks_signatures.specs.UseTexts.{use_text}
use Rattle.luks_commands.specs.declared.answers.Answer.{Answer}
use Rattle.luks_commands.specs.declared.answers.Answer.TheVariants.{Accepted, Listed, ListedFully, Mapped, Tokens, Json, Underway, Opens, Closed, NoneOpens, Matches, Differs, Done, Compared, Rescued, Refused, DeviceFault, NoMemory}
use Rattle.luks_commands.specs.declared.answers.Refusal.{Refusal}
use Rattle.luks_commands.specs.declared.answers.Refusal.TheVariants as refusal
use Rattle.luks_commands.specs.declared.answers.Status.{Status}
use Rattle.luks_commands.specs.declared.answers.Status.TheVariants as status
use Rattle.luks_commands.specs.declared.inputs.InputFault.{InputFault}
use Rattle.luks_commands.specs.declared.inputs.InputFault.TheVariants.{Absent, Unreadable, NoMemory as NoMemoryToRead}
use Rattle.luks_map.specs.Map.{map_text}
use Rattle.luks_show.specs.Listed.{full_text, listing_text}
use Rattle.luks_show.specs.TokenText.{tokens_text}
pub use Rattle.luks_show.specs.Texts.{copies_text, line}
use Rattle.luks_commands.specs.Checked.{status_of}
use Rattle.luks_commands.specs.UnderwayTexts.{shown_text, underway_refusal_text}
use Rattle.luks_commands.specs.Exit.{exit_status}

-- ---- the lines

-- a volume of this version with so many areas is accepted
abbrev pub accepted_line : Version → ℕ → List ℕ
accepted_line Luks1 areas = codes "accepted luks1 areas " ++ line (decimal areas)
accepted_line (Luks2 copies seqid) areas =
    codes "accepted luks2 " ++ copies_text copies ++ codes " seqid " ++ decimal seqid ++ codes " areas " ++ line (decimal areas)

-- the name of what refused the command
abbrev pub refusal_text : Refusal → List ℕ
refusal_text refusal.LongPassphrase = codes "Passphrase"
refusal_text (refusal.Check f) = check_fault_text f
refusal_text (refusal.Open f) = open_fault_text f
refusal_text (refusal.Key f) = key_fault_text f
refusal_text (refusal.Edit f) = edit_fault_text f
refusal_text (refusal.Format f) = format_fault_text f
refusal_text (refusal.Convert f) = convert_fault_text f
refusal_text (refusal.Rebuild f) = rebuild_fault_text f
refusal_text (refusal.Rebuild1 f) = rebuild1_fault_text f
refusal_text (refusal.Backup f) = backup_fault_text f
refusal_text (refusal.Restore f) = restore_fault_text f
refusal_text refusal.SameFile = codes "SameFile"
refusal_text refusal.Exists = codes "Exists"
refusal_text (refusal.OtherUse found) = codes "OtherUse(" ++ use_text found ++ codes ")"
refusal_text refusal.OtherVolume = codes "OtherVolume"
refusal_text refusal.Reencrypting = codes "Reencrypting"
refusal_text (refusal.Underway by_) = underway_refusal_text by_
refusal_text refusal.NotUnderWay = codes "NotUnderWay"

-- what is printed; of a LUKS2 header that is shown line by line it isn't told
abbrev pub line_of : Answer → Option (List ℕ)
line_of (Accepted version areas) = Some (accepted_line version areas)
line_of (Listed listing) = listing_text listing
line_of (ListedFully listing) = full_text listing.0
line_of (Mapped map) = Some (map_text map)
line_of (Tokens listing) = tokens_text listing.0
line_of (Json text) = Some (line (string_bytes text))
line_of (Underway shown) = Some (shown_text shown)
line_of (Opens n) = Some (codes "slot " ++ decimal n ++ line (codes " opens"))
line_of (Closed n) = Some (codes "slot " ++ decimal n ++ line (codes " does not open"))
line_of NoneOpens = Some (line (codes "no slot opens"))
line_of Matches = Some (line (codes "key matches"))
line_of Differs = Some (line (codes "key does not match"))
line_of (Done None) = Some (line (codes "done"))
line_of (Done (Some n)) = Some (codes "done slot " ++ line (decimal n))
line_of (Compared comparison) = Some (comparison_text comparison)
line_of (Rescued lost) = Some (rescued_text lost)
line_of (Refused by_) = Some (codes "refused " ++ line (refusal_text by_))
line_of DeviceFault = Some (line (codes "device fault"))
line_of NoMemory = Some (line (codes "no memory"))

-- ---- the exit statuses

-- a backup that is current, or isn't
abbrev pub current_status : Bool → Status
current_status true = status.Done
current_status false = status.Refused

abbrev pub answer_status : Answer → Status
answer_status (Accepted version areas) = status_of version
answer_status (Listed listing) = status.Done
answer_status (ListedFully listing) = status.Done
answer_status (Mapped map) = status.Done
answer_status (Tokens listing) = status.Done
answer_status (Json text) = status.Done
answer_status (Underway shown) = status.Done
answer_status (Opens n) = status.Done
answer_status (Closed n) = status.Refused
answer_status NoneOpens = status.Refused
answer_status Matches = status.Done
answer_status Differs = status.Refused
answer_status (Done slot) = status.Done
answer_status (Compared comparison) = current_status (is_current comparison)
answer_status (Rescued lost) = status.Refused
answer_status (Refused by_) = status.Refused
answer_status DeviceFault = status.Fault
answer_status NoMemory = status.Fault

-- ---- what a fault is answered by

-- a file can't be read
abbrev pub unread_answer : InputFault → Answer
unread_answer Absent = DeviceFault
unread_answer (Unreadable reason) = DeviceFault
unread_answer NoMemoryToRead = NoMemory

abbrev pub check_fault_answer : CheckFault → Answer
check_fault_answer checking.Device = DeviceFault
check_fault_answer checking.Memory = NoMemory
check_fault_answer f = Refused (refusal.Check f)

abbrev pub open_fault_answer : OpenFault → Answer
open_fault_answer opening.Device = DeviceFault
open_fault_answer opening.Memory = NoMemory
open_fault_answer f = Refused (refusal.Open f)

abbrev pub key_fault_answer : KeyFault → Answer
key_fault_answer judging.Device = DeviceFault
key_fault_answer judging.Memory = NoMemory
key_fault_answer f = Refused (refusal.Key f)

abbrev pub edit_fault_answer : EditFault → Answer
edit_fault_answer editing.Device = DeviceFault
edit_fault_answer editing.Memory = NoMemory
edit_fault_answer f = Refused (refusal.Edit f)

abbrev pub format_fault_answer : FormatFault → Answer
format_fault_answer formatting.Device = DeviceFault
format_fault_answer formatting.Memory = NoMemory
format_fault_answer f = Refused (refusal.Format f)

abbrev pub convert_fault_answer : ConvertFault → Answer
convert_fault_answer converting.Device = DeviceFault
convert_fault_answer converting.Memory = NoMemory
convert_fault_answer f = Refused (refusal.Convert f)

abbrev pub rebuild_fault_answer : RebuildFault → Answer
rebuild_fault_answer rebuilding.Device = DeviceFault
rebuild_fault_answer rebuilding.Memory = NoMemory
rebuild_fault_answer f = Refused (refusal.Rebuild f)

abbrev pub rebuild1_fault_answer : Rebuild1Fault → Answer
rebuild1_fault_answer rebuilding1.Device = DeviceFault
rebuild1_fault_answer f = Refused (refusal.Rebuild1 f)

abbrev pub backup_fault_answer : BackupFault → Answer
backup_fault_answer backing_up.Device = DeviceFault
backup_fault_answer backing_up.Memory = NoMemory
backup_fault_answer f = Refused (refusal.Backup f)

abbrev pub restore_fault_answer : RestoreFault → Answer
restore_fault_answer restoring.Device = DeviceFault
restore_fault_answer restoring.Memory = NoMemory
restore_fault_answer f = Refused (refusal.Restore f)

-- a command answers so that has no passphrase: it is too long, or its file can't be read, by such a fault
abbrev pub IsWordless : Type 0 → (InputFault → Type 0) → Answer → Type 0
IsWordless is_long unread a = ((a ≡ Refused refusal.LongPassphrase) × is_long) ⊎ ((f : InputFault) × unread f × (a ≡ unread_answer f))

-- ---- what becomes of an answer

-- the answer was printed, and the exit status is its own; or the print failed, and the status is 4.
-- `before` and `after` count the prints that failed, `held` and `holds` are what was printed
abbrev pub IsPrinted : Answer → ℕ → ℕ → Option (List ℕ) → Option (List ℕ) → ℕ → Type 0
IsPrinted answer before after held holds status =
    ((after ≡ before) × (status ≡ exit_status (answer_status answer)) × IfSome (line_of answer) (Appends held holds))
    ⊎ ((after ≡ before + 1) × (status ≡ 4))

-- a command that may answer so printed its answer
pub record Prints (says : Answer → Type 0) (before after : ℕ) (held holds : Option (List ℕ)) (status : ℕ) : Type 0 where
  pub answer : Answer
  pub said : says answer
  pub printed : IsPrinted answer before after held holds status
