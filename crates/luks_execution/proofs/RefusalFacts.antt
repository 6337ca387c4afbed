-- Each fault is printed as a name, alone or with brackets behind it.
use Rattle.std.proofs.Common.{◌≡◌, ◌≢◌, ℕ, List, ◌++◌, true, not, ◌==◌, refl, inl, inr}
use Rattle.std.specs.Prelude.{codes}
use Rattle.std.specs.Fmt.{decimal}
use Rattle.std.specs.List.{list_all}
use Rattle.std.proofs.lemmas.Bool.{eqb-false, not-true}
use Rattle.std.proofs.lemmas.List.Elements.{All-weaker}
use Rattle.std.proofs.lemmas.List.Sums.{AllPass-from_list_all}
use Rattle.luks_area.specs.declared.area.AreaFault.{AreaFault}
use Rattle.luks_area.specs.declared.area.AreaFault.TheVariants as area
use Rattle.luks_area.specs.Printed.{area_fault_text, name_text}
use Rattle.luks1_header.specs.declared.fault.HeadFault.{HeadFault}
use Rattle.luks1_header.specs.declared.fault.HeadFault.TheVariants as head
use Rattle.luks1_header.specs.FaultTexts.{fault_text as head_fault_text, field_text, of_text}
use Rattle.luks_rules.specs.declared.fault.MetaFault.{MetaFault}
use Rattle.luks_rules.specs.declared.fault.MetaFault.TheVariants as meta
use Rattle.luks_rules.specs.MetaFault.{fault_text as meta_fault_text}
use Rattle.luks_wider.specs.declared.fault.WideFault.{WideFault}
use Rattle.luks_wider.specs.declared.fault.WideFault.TheVariants as wide
use Rattle.luks_wider.specs.WideFaults.{wide_fault_text}
use Rattle.luks_slot.specs.declared.fault.SlotFault.{SlotFault}
use Rattle.luks_slot.specs.declared.fault.SlotFault.TheVariants as slot
use Rattle.luks_slot.specs.Fault.{fault_text as slot_fault_text}
use Rattle.luks_reading.specs.declared.check_fault.CheckFault.{CheckFault}
use Rattle.luks_reading.specs.declared.check_fault.CheckFault.TheVariants as checking
use Rattle.luks_reading.specs.declared.key_fault.KeyFault.{KeyFault}
use Rattle.luks_reading.specs.declared.key_fault.KeyFault.TheVariants as judging
use Rattle.luks_reading.specs.declared.open_fault.OpenFault.{OpenFault}
use Rattle.luks_reading.specs.declared.open_fault.OpenFault.TheVariants as opening
use Rattle.luks_reading.specs.FaultTexts.{check_fault_text, key_fault_text, open_fault_text}
use Rattle.luks_edit.specs.declared.edit_fault.EditFault.{EditFault}
use Rattle.luks_edit.specs.declared.edit_fault.EditFault.TheVariants as editing
use Rattle.luks_edit.specs.FaultTexts.{edit_fault_text}
use Rattle.luks_formatting.specs.declared.format_fault.FormatFault.{FormatFault}
use Rattle.luks_formatting.specs.declared.format_fault.FormatFault.TheVariants as formatting
use Rattle.luks_formatting.specs.FormatFaults.{fault_text as format_fault_text}
use Rattle.luks_converting.specs.declared.convert_fault.ConvertFault.{ConvertFault}
use Rattle.luks_converting.specs.declared.convert_fault.ConvertFault.TheVariants as converting
use Rattle.luks_converting.specs.FaultTexts.{convert_fault_text}
use Rattle.luks_rebuilding.specs.declared.rebuild_fault.RebuildFault.{RebuildFault}
use Rattle.luks_rebuilding.specs.declared.rebuild_fault.RebuildFault.TheVariants as rebuilding
use Rattle.luks_rebuilding.specs.FaultTexts.{rebuild_fault_text}
use Rattle.luks1_rebuilding.specs.declared.rebuild_fault.Rebuild1Fault.{Rebuild1Fault}
use Rattle.luks1_rebuilding.specs.declared.rebuild_fault.Rebuild1Fault.TheVariants as rebuilding1
use Rattle.luks1_rebuilding.specs.FaultTexts.{rebuild_fault_text as rebuild1_fault_text}
use Rattle.luks_keeping.specs.declared.backup_fault.BackupFault.{BackupFault}
use Rattle.luks_keeping.specs.declared.backup_fault.BackupFault.TheVariants as backing_up
use Rattle.luks_keeping.specs.declared.restore_fault.RestoreFault.{RestoreFault}
use Rattle.luks_keeping.specs.declared.restore_fault.RestoreFault.TheVariants as restoring
use Rattle.luks_keeping.specs.FaultTexts.{backup_fault_text, restore_fault_text}
use Rattle.luks_signatures.specs.UseTexts.{use_text}
use Rattle.luks_commands.specs.declared.answers.Refusal.{Refusal}
use Rattle.luks_commands.specs.declared.answers.Refusal.TheVariants as refusal
use Rattle.luks_commands.specs.declared.underway_refusal.UnderwayRefusal.{UnderwayRefusal}
use Rattle.luks_commands.specs.declared.underway_refusal.UnderwayRefusal.TheVariants as underway
use Rattle.luks_commands.specs.Answer.{refusal_text}
use Rattle.luks_commands.specs.UnderwayTexts.{underway_refusal_text}
use Rattle.luks_execution.specs.Parted.{HasParts, LacksBracket}

-- a text whose bytes are tested to be none has no bracket
tested : (bs : List ℕ) → list_all (λ b. not (b == 40)) bs ≡ true → LacksBracket bs
tested bs passes = All-weaker (λ b. not (b == 40) ≡ true) (λ c. c ≢ 40) (λ b passed. eqb-false b 40 (not-true (b == 40) passed)) bs (AllPass-from_list_all (λ b. not (b == 40)) bs passes)

-- such a name, alone and with brackets behind it
bare : (name : List ℕ) → list_all (λ b. not (b == 40)) name ≡ true → HasParts name
bare name passes = record { name = name; plain = tested name passes; is = inl refl }

around : (name inside : List ℕ) → list_all (λ b. not (b == 40)) name ≡ true → HasParts (name ++ (codes "(" ++ (inside ++ codes ")")))
around name inside passes = record { name = name; plain = tested name passes; is = inr (inside, refl) }

area_parts : (f : AreaFault) → HasParts (area_fault_text f)
area_parts (area.Outside n) = around (codes "Outside") (name_text n) refl
area_parts (area.Overlap m n) = around (codes "Overlap") (name_text m ++ codes "," ++ name_text n) refl

head_parts : (f : HeadFault) → HasParts (head_fault_text f)
head_parts head.TooShort = bare (codes "TooShort") refl
head_parts head.NotLuks = bare (codes "NotLuks") refl
head_parts head.Version = bare (codes "Version") refl
head_parts head.NoSoundCopy = bare (codes "NoSoundCopy") refl
head_parts (head.Text t) = around (codes "Text") (field_text t) refl
head_parts head.Uuid = bare (codes "Uuid") refl
head_parts (head.SlotState n) = around (codes "SlotState") (decimal n) refl
head_parts head.KeyBytes = bare (codes "KeyBytes") refl
head_parts (head.Stripes n) = around (codes "Stripes") (decimal n) refl
head_parts (head.Iterations o) = around (codes "Iterations") (of_text o) refl
head_parts head.Device = bare (codes "Device") refl
head_parts head.Memory = bare (codes "Memory") refl

meta_parts : (f : MetaFault) → HasParts (meta_fault_text f)
meta_parts meta.JsonArea = bare (codes "JsonArea") refl
meta_parts meta.BadJson = bare (codes "BadJson") refl
meta_parts meta.NotWhole = bare (codes "NotWhole") refl
meta_parts (meta.Shape path) = around (codes "Shape") path.bytes refl
meta_parts (meta.Kind path) = around (codes "Kind") path.bytes refl
meta_parts (meta.NoSuchName path) = around (codes "NoSuchName") path.bytes refl
meta_parts (meta.Assigned path) = around (codes "Assigned") path.bytes refl
meta_parts meta.Sizes = bare (codes "Sizes") refl
meta_parts (meta.AreaTooSmall n) = around (codes "AreaTooSmall") (decimal n) refl
meta_parts (meta.Region name) = around (codes "Region") (name_text name) refl
meta_parts meta.Memory = bare (codes "Memory") refl

wide_parts : (f : WideFault) → HasParts (wide_fault_text f)
wide_parts (wide.Meta f) = meta_parts f
wide_parts (wide.UnderWay path) = around (codes "UnderWay") path.bytes refl

slot_parts : (f : SlotFault) → HasParts (slot_fault_text f)
slot_parts slot.Argon2 = bare (codes "Argon2") refl
slot_parts slot.Cipher = bare (codes "Cipher") refl
slot_parts slot.Hash = bare (codes "Hash") refl
slot_parts slot.KeySize = bare (codes "KeySize") refl
slot_parts slot.Device = bare (codes "Device") refl
slot_parts slot.Memory = bare (codes "Memory") refl

check_parts : (f : CheckFault) → HasParts (check_fault_text f)
check_parts (checking.Head f) = head_parts f
check_parts (checking.Meta f) = meta_parts f
check_parts (checking.Area f) = area_parts f
check_parts checking.Device = bare (codes "Device") refl
check_parts checking.Memory = bare (codes "Memory") refl

open_parts : (f : OpenFault) → HasParts (open_fault_text f)
open_parts (opening.Head f) = head_parts f
open_parts (opening.Meta f) = meta_parts f
open_parts opening.NoSuchSlot = bare (codes "NoSuchSlot") refl
open_parts opening.SlotFree = bare (codes "SlotFree") refl
open_parts opening.Outside = bare (codes "Outside") refl
open_parts (opening.Slot f) = slot_parts f
open_parts opening.Device = bare (codes "Device") refl
open_parts opening.Memory = bare (codes "Memory") refl

key_parts : (f : KeyFault) → HasParts (key_fault_text f)
key_parts (judging.Head f) = head_parts f
key_parts (judging.Meta f) = meta_parts f
key_parts judging.NoSuchDigest = bare (codes "NoSuchDigest") refl
key_parts judging.KeyLength = bare (codes "KeyLength") refl
key_parts judging.Hash = bare (codes "Hash") refl
key_parts judging.Device = bare (codes "Device") refl
key_parts judging.Memory = bare (codes "Memory") refl

edit_parts : (f : EditFault) → HasParts (edit_fault_text f)
edit_parts (editing.NotAccepted f) = check_parts f
edit_parts (editing.Slot f) = slot_parts f
edit_parts editing.Requirements = bare (codes "Requirements") refl
edit_parts editing.NoSuchSlot = bare (codes "NoSuchSlot") refl
edit_parts editing.SameSlot = bare (codes "SameSlot") refl
edit_parts editing.Locked = bare (codes "Locked") refl
edit_parts editing.KeyLength = bare (codes "KeyLength") refl
edit_parts editing.WrongKey = bare (codes "WrongKey") refl
edit_parts editing.SlotTaken = bare (codes "SlotTaken") refl
edit_parts editing.NoFreeSlot = bare (codes "NoFreeSlot") refl
edit_parts editing.NoRoom = bare (codes "NoRoom") refl
edit_parts editing.LastSlot = bare (codes "LastSlot") refl
edit_parts editing.Iterations = bare (codes "Iterations") refl
edit_parts editing.Argon2 = bare (codes "Argon2") refl
edit_parts editing.BadLabel = bare (codes "BadLabel") refl
edit_parts editing.NoSuchToken = bare (codes "NoSuchToken") refl
edit_parts editing.TokenTaken = bare (codes "TokenTaken") refl
edit_parts editing.NoFreeToken = bare (codes "NoFreeToken") refl
edit_parts editing.UnreadableToken = bare (codes "UnreadableToken") refl
edit_parts editing.BadUuid = bare (codes "BadUuid") refl
edit_parts (editing.BadToken f) = meta_parts f
edit_parts editing.SeqExhausted = bare (codes "SeqExhausted") refl
edit_parts editing.MetadataFull = bare (codes "MetadataFull") refl
edit_parts editing.RandomLength = bare (codes "RandomLength") refl
edit_parts editing.Memory = bare (codes "Memory") refl
edit_parts editing.Device = bare (codes "Device") refl

format_parts : (f : FormatFault) → HasParts (format_fault_text f)
format_parts formatting.Payload = bare (codes "Payload") refl
format_parts formatting.TooSmall = bare (codes "TooSmall") refl
format_parts formatting.SectorSize = bare (codes "SectorSize") refl
format_parts formatting.Uneven = bare (codes "Uneven") refl
format_parts formatting.Uuid = bare (codes "Uuid") refl
format_parts formatting.BadLabel = bare (codes "BadLabel") refl
format_parts formatting.Cipher = bare (codes "Cipher") refl
format_parts formatting.KeyLength = bare (codes "KeyLength") refl
format_parts formatting.Iterations = bare (codes "Iterations") refl
format_parts formatting.Argon2 = bare (codes "Argon2") refl
format_parts formatting.RandomLength = bare (codes "RandomLength") refl
format_parts formatting.Memory = bare (codes "Memory") refl
format_parts formatting.Device = bare (codes "Device") refl

convert_parts : (f : ConvertFault) → HasParts (convert_fault_text f)
convert_parts (converting.NotAccepted f) = check_parts f
convert_parts converting.NotLuks1 = bare (codes "NotLuks1") refl
convert_parts converting.TooSmall = bare (codes "TooSmall") refl
convert_parts converting.NoRoom = bare (codes "NoRoom") refl
convert_parts converting.MetadataFull = bare (codes "MetadataFull") refl
convert_parts converting.RandomLength = bare (codes "RandomLength") refl
convert_parts converting.Memory = bare (codes "Memory") refl
convert_parts converting.Device = bare (codes "Device") refl

rebuild_parts : (f : RebuildFault) → HasParts (rebuild_fault_text f)
rebuild_parts (rebuilding.Area f) = area_parts f
rebuild_parts rebuilding.Counts = bare (codes "Counts") refl
rebuild_parts rebuilding.NoMetadata = bare (codes "NoMetadata") refl
rebuild_parts rebuilding.TooSmall = bare (codes "TooSmall") refl
rebuild_parts rebuilding.Uuid = bare (codes "Uuid") refl
rebuild_parts rebuilding.RandomLength = bare (codes "RandomLength") refl
rebuild_parts rebuilding.Memory = bare (codes "Memory") refl
rebuild_parts rebuilding.Device = bare (codes "Device") refl

rebuild1_parts : (f : Rebuild1Fault) → HasParts (rebuild1_fault_text f)
rebuild1_parts rebuilding1.Counts = bare (codes "Counts") refl
rebuild1_parts rebuilding1.Reencrypting = bare (codes "Reencrypting") refl
rebuild1_parts rebuilding1.NoHeader = bare (codes "NoHeader") refl
rebuild1_parts (rebuilding1.Text t) = around (codes "Text") (field_text t) refl
rebuild1_parts rebuilding1.KeyBytes = bare (codes "KeyBytes") refl
rebuild1_parts rebuilding1.Iterations = around (codes "Iterations") (codes "Digest") refl
rebuild1_parts rebuilding1.TooSmall = bare (codes "TooSmall") refl
rebuild1_parts (rebuilding1.Area f) = area_parts f
rebuild1_parts rebuilding1.Device = bare (codes "Device") refl

backup_parts : (f : BackupFault) → HasParts (backup_fault_text f)
backup_parts (backing_up.NotAccepted f) = check_parts f
backup_parts backing_up.TooSmall = bare (codes "TooSmall") refl
backup_parts backing_up.Memory = bare (codes "Memory") refl
backup_parts backing_up.Device = bare (codes "Device") refl

restore_parts : (f : RestoreFault) → HasParts (restore_fault_text f)
restore_parts (restoring.NotAccepted f) = around (codes "NotAccepted") (check_fault_text f) refl
restore_parts (restoring.DoesNotFit f) = around (codes "DoesNotFit") (check_fault_text f) refl
restore_parts restoring.OtherVolume = bare (codes "OtherVolume") refl
restore_parts restoring.Memory = bare (codes "Memory") refl
restore_parts restoring.Device = bare (codes "Device") refl

underway_parts : (r : UnderwayRefusal) → HasParts (underway_refusal_text r)
underway_parts (underway.Metadata f) = wide_parts f
underway_parts underway.NoKey = bare (codes "NoKey") refl
underway_parts underway.Progressed = bare (codes "Progressed") refl

-- of each command
pub refusal_parts : (r : Refusal) → HasParts (refusal_text r)
refusal_parts refusal.LongPassphrase = bare (codes "Passphrase") refl
refusal_parts (refusal.Check f) = check_parts f
refusal_parts (refusal.Open f) = open_parts f
refusal_parts (refusal.Key f) = key_parts f
refusal_parts (refusal.Edit f) = edit_parts f
refusal_parts (refusal.Format f) = format_parts f
refusal_parts (refusal.Convert f) = convert_parts f
refusal_parts (refusal.Rebuild f) = rebuild_parts f
refusal_parts (refusal.Rebuild1 f) = rebuild1_parts f
refusal_parts (refusal.Backup f) = backup_parts f
refusal_parts (refusal.Restore f) = restore_parts f
refusal_parts refusal.SameFile = bare (codes "SameFile") refl
refusal_parts refusal.Exists = bare (codes "Exists") refl
refusal_parts (refusal.OtherUse found) = around (codes "OtherUse") (use_text found) refl
refusal_parts refusal.OtherVolume = bare (codes "OtherVolume") refl
refusal_parts refusal.Reencrypting = bare (codes "Reencrypting") refl
refusal_parts (refusal.Underway by_) = underway_parts by_
refusal_parts refusal.NotUnderWay = bare (codes "NotUnderWay") refl
