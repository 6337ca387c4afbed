-- What is known of a volume where no row refuses the edit.
use Rattle.std.proofs.Common.{ℕ, List, Result, Ok, Err, IfOk}
use Rattle.std.specs.Prelude.{OnOk}
use Rattle.luks2_header.specs.Header2.{hdr_size, header_at}
use Rattle.luks_meta.specs.Content.{content}
use Rattle.luks_reading.specs.declared.header.ChosenCopy.{ChosenCopy}
use Rattle.luks_reading.specs.declared.report.Data.{Data}
use Rattle.luks_edit.specs.declared.edit.Edit.{Edit}
use Rattle.luks_edit.specs.declared.edit_fault.EditFault.{EditFault}
use Rattle.luks_reading.specs.Checked.{WellFormed}
use Rattle.luks2_judging.specs.declared.judged.JudgedEdit.{JudgedEdit}
use Rattle.luks2_judging.specs.Judging.{IsUnrefusedOf, Seals}
use Rattle.luks2_judging.specs.Rows.{HasNoFaultBefore}

-- by what each of the calls says of it
pub unrefused : (copy : ChosenCopy) (v : List ℕ) (payload : Data) (e : Edit) (r : Result JudgedEdit EditFault) → WellFormed v payload
    → IfOk r (Seals (hdr_size (header_at v copy.header.hdr_offset)) v payload (content copy.meta) e) → OnOk r ((random : List ℕ) → HasNoFaultBefore 20 v payload e random)
    → IfOk r (IsUnrefusedOf copy v payload e)
unrefused copy v payload e (Ok it) well seals none = record { well = well; seals = seals; none = none }
unrefused copy v payload e (Err f) well seals none = tt
