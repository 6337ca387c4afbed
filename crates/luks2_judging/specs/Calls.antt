-- What judging an edit by its keyslot asks of a device and promises of it: words of private contracts,
-- over the device's ghost members.
use Rattle.std.specs.Prelude.{◌≡◌, ℕ, ◌+◌, ◌^◌, ◌<◌, List, Result, IfErr, IfOk, OnOk}
use Rattle.luks_area.specs.declared.areas.Entry.{Entry}
use Rattle.luks_area.specs.declared.device.Device.{Ghosts}
use Rattle.luks2_header.specs.Header2.{hdr_size, header_at}
use Rattle.luks_meta.specs.Content.{content}
use Rattle.luks_reading.specs.declared.header.ChosenCopy.{ChosenCopy}
use Rattle.luks_reading.specs.declared.report.Data.{Data}
use Rattle.luks_reading.specs.Checked.{WellFormed}
use Rattle.luks_reading.specs.Header.{IsAcceptedCopy, IsChosenCopy}
use Rattle.luks_edit.specs.declared.edit.Edit.{Edit}
use Rattle.luks_edit.specs.declared.edit_fault.EditFault.{EditFault}
use Rattle.luks2_judging.specs.declared.judged.JudgedEdit.{JudgedEdit}
use Rattle.luks2_judging.specs.Judging.{IsAcceptedFor, IsJudgedTo, IsRefusedEarly, Seals, Takes}
use Rattle.luks2_judging.specs.Rows.{HasNoFaultBefore}

-- an accepted copy may be judged further: one more failure can be counted, and it has the keyslots of the edit
pub record IsReadyToJudge {D : Type 0} (device : Ghosts D) (copy : ChosenCopy) (areas : List Entry) (len : ℕ) (edit : Edit) (old : D) : Type 0 where
  pub room : device.failed old + 1 < 2 ^ 64
  pub accepted : IsAcceptedCopy copy
  pub total : len ≡ device.size old
  pub own : IsAcceptedFor copy areas len edit

-- what is promised where the copy counts, and no fault is in a row before the keyslot is opened
abbrev pub WhereJudged : {D : Type 0} → Ghosts D → ChosenCopy → List Entry → Edit → D → (Data → Type 0) → Type 0
WhereJudged device copy areas edit old Promise = device.tells → IsChosenCopy (device.bytes old) copy → (payload : Data)
    → ((random : List ℕ) → IsJudgedTo 4 copy areas (device.bytes old) payload edit random) → Promise payload

-- what the edit takes of the copy, on any device
abbrev pub TakesOf : {D : Type 0} → Ghosts D → ChosenCopy → Edit → D → Result JudgedEdit EditFault → Type 0
TakesOf device copy edit old result = IfOk result (Takes copy (device.size old) edit)

-- its keyslot opens, and its area is the one that the header leaves
abbrev pub SealsOf : {D : Type 0} → Ghosts D → ChosenCopy → List Entry → Edit → D → Result JudgedEdit EditFault → Type 0
SealsOf device copy areas edit old result = WhereJudged device copy areas edit old (λ payload.
    IfOk result (Seals (hdr_size (header_at (device.bytes old) copy.header.hdr_offset)) (device.bytes old) payload (content copy.meta) edit))

-- no row up to `BadUuid` refuses it
abbrev pub PassesOf : {D : Type 0} → Ghosts D → ChosenCopy → List Entry → Edit → D → Result JudgedEdit EditFault → Type 0
PassesOf device copy areas edit old result = WhereJudged device copy areas edit old (λ payload.
    OnOk result ((random : List ℕ) → HasNoFaultBefore 20 (device.bytes old) payload edit random))

-- or one of them does
abbrev pub RefusesOf : {D : Type 0} → Ghosts D → ChosenCopy → List Entry → Edit → D → Result JudgedEdit EditFault → Type 0
RefusesOf device copy areas edit old result = device.tells → IsChosenCopy (device.bytes old) copy → (payload : Data) → WellFormed (device.bytes old) payload
    → ((random : List ℕ) → IsJudgedTo 4 copy areas (device.bytes old) payload edit random) → IfErr result (IsRefusedEarly (device.bytes old) payload edit)
