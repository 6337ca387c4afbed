-- The numbers by which the calls answer, as luks.h lists them.
use Rattle.std.specs.Prelude.{ℕ, ◌==◌, List, Option, find}
use Rattle.std.specs.Option.{option_map_or}
use Rattle.luks_area.specs.Printed.{area_fault_text}
use Rattle.luks1_header.specs.FaultTexts.{fault_text as head_fault_text}
use Rattle.luks_rules.specs.MetaFault.{fault_text as meta_fault_text}
use Rattle.luks_slot.specs.Fault.{fault_text as slot_fault_text}
use Rattle.luks_reading.specs.FaultTexts.{check_fault_text}
use Rattle.luks_reading.specs.declared.check_fault.CheckFault.{CheckFault}
use Rattle.luks_reading.specs.declared.check_fault.CheckFault.TheVariants as checking
use Rattle.luks_reading.specs.declared.key_fault.KeyFault.{KeyFault}
use Rattle.luks_reading.specs.declared.key_fault.KeyFault.TheVariants as key
use Rattle.luks_reading.specs.declared.open_fault.OpenFault.{OpenFault}
use Rattle.luks_reading.specs.declared.open_fault.OpenFault.TheVariants as opening
use Rattle.luks_reading.specs.declared.read_fault.ReadFault.{ReadFault}
use Rattle.luks_reading.specs.declared.read_fault.ReadFault.TheVariants as reading
use Rattle.luks_edit.specs.declared.edit_fault.EditFault.{EditFault}
use Rattle.luks_edit.specs.declared.edit_fault.EditFault.TheVariants as edit
use Rattle.luks_formatting.specs.declared.format_fault.FormatFault.{FormatFault}
use Rattle.luks_formatting.specs.declared.format_fault.FormatFault.TheVariants as format
use Rattle.luks_converting.specs.declared.convert_fault.ConvertFault.{ConvertFault}
use Rattle.luks_converting.specs.declared.convert_fault.ConvertFault.TheVariants as convert
use Rattle.luks_rebuilding.specs.declared.rebuild_fault.RebuildFault.{RebuildFault}
use Rattle.luks_rebuilding.specs.declared.rebuild_fault.RebuildFault.TheVariants as rebuild
use Rattle.luks1_rebuilding.specs.declared.rebuild_fault.Rebuild1Fault.{Rebuild1Fault}
use Rattle.luks1_rebuilding.specs.declared.rebuild_fault.Rebuild1Fault.TheVariants as rebuild1
use Rattle.luks_keeping.specs.declared.backup_fault.BackupFault.{BackupFault}
use Rattle.luks_keeping.specs.declared.backup_fault.BackupFault.TheVariants as backup
use Rattle.luks_keeping.specs.declared.restore_fault.RestoreFault.{RestoreFault}
use Rattle.luks_keeping.specs.declared.restore_fault.RestoreFault.TheVariants as restore
use Rattle.luks_explain.specs.declared.fault.Fault.{Fault}
use Rattle.luks_explain.specs.declared.fault.Fault.TheVariants as fault
use Rattle.luks_explain.specs.Names.{all_faults, fault_named, name_in}

-- the number of a fault, which stays its own in each later version
abbrev pub fault_number : Fault → ℕ
fault_number fault.TooShort = 1
fault_number fault.NotLuks = 2
fault_number fault.Version = 3
fault_number fault.NoSoundCopy = 4
fault_number fault.Text = 5
fault_number fault.Uuid = 6
fault_number fault.SlotState = 7
fault_number fault.KeyBytes = 8
fault_number fault.Stripes = 9
fault_number fault.Iterations = 10
fault_number fault.JsonArea = 11
fault_number fault.BadJson = 12
fault_number fault.NotWhole = 13
fault_number fault.Shape = 14
fault_number fault.Kind = 15
fault_number fault.NoSuchName = 16
fault_number fault.Assigned = 17
fault_number fault.Sizes = 18
fault_number fault.AreaTooSmall = 19
fault_number fault.Region = 20
fault_number fault.Outside = 21
fault_number fault.Overlap = 22
fault_number fault.NoSuchSlot = 23
fault_number fault.SlotFree = 24
fault_number fault.Argon2 = 25
fault_number fault.Cipher = 26
fault_number fault.Hash = 27
fault_number fault.KeySize = 28
fault_number fault.Locked = 29
fault_number fault.Passphrase = 30
fault_number fault.Requirements = 31
fault_number fault.SlotTaken = 32
fault_number fault.NoFreeSlot = 33
fault_number fault.NoRoom = 34
fault_number fault.LastSlot = 35
fault_number fault.BadLabel = 36
fault_number fault.SeqExhausted = 37
fault_number fault.MetadataFull = 38
fault_number fault.RandomLength = 39
fault_number fault.TooSmall = 40
fault_number fault.NotLuks1 = 41
fault_number fault.SameFile = 42
fault_number fault.Counts = 43
fault_number fault.NoMetadata = 44
fault_number fault.Exists = 45
fault_number fault.NotAccepted = 46
fault_number fault.DoesNotFit = 47
fault_number fault.OtherVolume = 48
fault_number fault.OtherUse = 49
fault_number fault.SameSlot = 50
fault_number fault.NoHeader = 51
fault_number fault.Reencrypting = 52
fault_number fault.NoSuchDigest = 53
fault_number fault.KeyLength = 54
fault_number fault.Payload = 55
fault_number fault.SectorSize = 56
fault_number fault.Uneven = 57
fault_number fault.WrongKey = 58
fault_number fault.NoSuchToken = 59
fault_number fault.TokenTaken = 60
fault_number fault.NoFreeToken = 61
fault_number fault.UnreadableToken = 62
fault_number fault.BadUuid = 63
fault_number fault.UnderWay = 64
fault_number fault.NoKey = 65
fault_number fault.Progressed = 66
fault_number fault.NotUnderWay = 67

-- the fault of this number, if there is one
abbrev pub fault_numbered : ℕ → Option Fault
fault_numbered number = find (λ f. fault_number f == number) all_faults

-- the number of a fault as it is printed, with a place in brackets or none; 99 of what is no fault's name
abbrev pub number_printed : List ℕ → ℕ
number_printed printed = option_map_or fault_number (fault_named (name_in printed)) 99

-- of what `check` answers in place of a report: 102 of a read of bytes that weren't given, 103 of refused memory
abbrev pub check_number : CheckFault → ℕ
check_number (checking.Head f) = number_printed (head_fault_text f)
check_number (checking.Meta f) = number_printed (meta_fault_text f)
check_number (checking.Area f) = number_printed (area_fault_text f)
check_number checking.Device = 102
check_number checking.Memory = 103

-- of what reading the header answers in place of one
abbrev pub read_number : ReadFault → ℕ
read_number (reading.Head f) = number_printed (head_fault_text f)
read_number (reading.Meta f) = number_printed (meta_fault_text f)
read_number reading.Device = 102
read_number reading.Memory = 103

-- of what opening a keyslot answers in place of a key
abbrev pub open_number : OpenFault → ℕ
open_number (opening.Head f) = number_printed (head_fault_text f)
open_number (opening.Meta f) = number_printed (meta_fault_text f)
open_number opening.NoSuchSlot = 23
open_number opening.SlotFree = 24
open_number opening.Outside = 21
open_number (opening.Slot f) = number_printed (slot_fault_text f)
open_number opening.Device = 102
open_number opening.Memory = 103

-- of what judging a key answers in place of whether it is the volume's
abbrev pub key_number : KeyFault → ℕ
key_number (key.Head f) = number_printed (head_fault_text f)
key_number (key.Meta f) = number_printed (meta_fault_text f)
key_number key.NoSuchDigest = 53
key_number key.KeyLength = 54
key_number key.Hash = 27
key_number key.Device = 102
key_number key.Memory = 103

-- of what an edit answers in place of what it made
abbrev pub edit_number : EditFault → ℕ
edit_number (edit.NotAccepted f) = number_printed (check_fault_text f)
edit_number edit.Requirements = 31
edit_number edit.NoSuchSlot = 23
edit_number edit.SameSlot = 50
edit_number edit.Locked = 29
edit_number edit.KeyLength = 54
edit_number edit.WrongKey = 58
edit_number (edit.Slot f) = number_printed (slot_fault_text f)
edit_number edit.SlotTaken = 32
edit_number edit.NoFreeSlot = 33
edit_number edit.NoRoom = 34
edit_number edit.LastSlot = 35
edit_number edit.Iterations = 10
edit_number edit.Argon2 = 25
edit_number edit.BadLabel = 36
edit_number edit.NoSuchToken = 59
edit_number edit.TokenTaken = 60
edit_number edit.NoFreeToken = 61
edit_number edit.UnreadableToken = 62
edit_number edit.BadUuid = 63
edit_number (edit.BadToken f) = number_printed (meta_fault_text f)
edit_number edit.SeqExhausted = 37
edit_number edit.MetadataFull = 38
edit_number edit.RandomLength = 39
edit_number edit.Memory = 103
edit_number edit.Device = 102

-- of what formatting answers in place of a volume
abbrev pub format_number : FormatFault → ℕ
format_number format.Payload = 55
format_number format.TooSmall = 40
format_number format.SectorSize = 56
format_number format.Uneven = 57
format_number format.Uuid = 6
format_number format.BadLabel = 36
format_number format.Cipher = 26
format_number format.KeyLength = 54
format_number format.Iterations = 10
format_number format.Argon2 = 25
format_number format.RandomLength = 39
format_number format.Memory = 103
format_number format.Device = 102

-- of what converting answers in place of a header
abbrev pub convert_number : ConvertFault → ℕ
convert_number (convert.NotAccepted f) = number_printed (check_fault_text f)
convert_number convert.NotLuks1 = 41
convert_number convert.TooSmall = 40
convert_number convert.NoRoom = 34
convert_number convert.MetadataFull = 38
convert_number convert.RandomLength = 39
convert_number convert.Memory = 103
convert_number convert.Device = 102

-- of what rebuilding answers in place of a LUKS2 header
abbrev pub rebuild_number : RebuildFault → ℕ
rebuild_number rebuild.Counts = 43
rebuild_number rebuild.NoMetadata = 44
rebuild_number (rebuild.Area f) = number_printed (area_fault_text f)
rebuild_number rebuild.TooSmall = 40
rebuild_number rebuild.Uuid = 6
rebuild_number rebuild.RandomLength = 39
rebuild_number rebuild.Memory = 103
rebuild_number rebuild.Device = 102

-- and of a LUKS1 header
abbrev pub rebuild1_number : Rebuild1Fault → ℕ
rebuild1_number rebuild1.Counts = 43
rebuild1_number rebuild1.Reencrypting = 52
rebuild1_number rebuild1.NoHeader = 51
rebuild1_number (rebuild1.Text t) = 5
rebuild1_number rebuild1.KeyBytes = 8
rebuild1_number rebuild1.Iterations = 10
rebuild1_number rebuild1.TooSmall = 40
rebuild1_number (rebuild1.Area f) = number_printed (area_fault_text f)
rebuild1_number rebuild1.Device = 102

-- of what backing up answers in place of a backup
abbrev pub backup_number : BackupFault → ℕ
backup_number (backup.NotAccepted f) = number_printed (check_fault_text f)
backup_number backup.TooSmall = 40
backup_number backup.Memory = 103
backup_number backup.Device = 102

-- of what restoring answers in place of a volume
abbrev pub restore_number : RestoreFault → ℕ
restore_number (restore.NotAccepted f) = 46
restore_number (restore.DoesNotFit f) = 47
restore_number restore.OtherVolume = 48
restore_number restore.Memory = 103
restore_number restore.Device = 102
