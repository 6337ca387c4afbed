-- What the verdict on a header says of the volume.
use Rattle.std.proofs.Common.{◌≡◌, ℕ, ◌<◌, List, arith, length, subst, refl, sym}
use Rattle.luks_area.specs.Ranges.{part}
use Rattle.luks1_header.proofs.Luks1FaultFacts.{sound}
use Rattle.luks2_header.specs.Selection.{luks1, Chosen}
use Rattle.luks2_header.proofs.ChoiceFacts.{choices_agree}
use Rattle.luks_reading.specs.declared.check_fault.CheckFault.{CheckFault}
use Rattle.luks_reading.specs.declared.check_fault.CheckFault.TheVariants as checked
use Rattle.luks_reading.specs.declared.report.Data.{Data}
use Rattle.luks_reading.specs.Checked.{IsFaultAs, IsLuks1Fault, IsLuks1Volume}
use Rattle.luks_reading.specs.Layout1.{Luks1Area}
use Rattle.luks_reading.proofs.ListedAreaFacts.{no_area_fault}
use Rattle.luks_edit.specs.declared.edit.Edit.{Edit}
use Rattle.luks_edit.specs.declared.edit_fault.EditFault.{EditFault}
use Rattle.luks_edit.specs.declared.edit_fault.EditFault.TheVariants as fault
use Rattle.luks_edit.specs.EditFaults.{edit_row}
use Rattle.luks_edit.proofs.RowFacts.{first_of_check}
use Rattle.luks1_edits.specs.Accepted.{IsHeaderOf, IsUnaccepted}
use Rattle.luks1_edits.specs.Refused.{IsEditFault1, Refusal1}
use Rattle.luks1_edits.specs.Replies.{EndsBy1}

-- ---- the verdict on the header is that on the volume

-- what is accepted has no fault
faultless : (h : List ℕ) (payload : Data) (total : ℕ) → IsLuks1Volume h payload total → (f : CheckFault) → IsLuks1Fault h payload total f → ⊥
faultless h payload total whole (checked.Head f) is = sound h whole.header.0 whole.header.1 f is
faultless h payload total whole (checked.Area f) is = no_area_fault (Luks1Area h payload total) total f whole.fit is
faultless h payload total whole f is = is

pub header_of : (h : List ℕ) (payload : Data) (total : ℕ) (v : List ℕ) → Chosen v luks1 → h ≡ part v 0 592 → length v ≡ total → IsLuks1Volume h payload total → IsHeaderOf h payload v
header_of h payload total v chosen begins size whole =
    let formed = subst (λ t. IsLuks1Volume (part v 0 592) payload t) (sym size) (subst (λ b. IsLuks1Volume b payload total) begins whole) in
    record {
      chosen = chosen;
      begins = begins;
      well = record { choice = luks1; chosen = chosen; formed = formed };
      faultless = λ f bad.
          faultless (part v 0 592) payload (length v) formed f (subst (λ c. IsFaultAs v payload c f) (choices_agree v bad.choice luks1 bad.chosen chosen) bad.fault);
    }

-- the volume isn't accepted
pub unaccepted_first : (v : List ℕ) (payload : Data) (e : Edit) (r : List ℕ) (f : EditFault) → IsUnaccepted v payload f → Refusal1 v payload e r f
unaccepted_first v payload e r (fault.NotAccepted f) first = first_of_check (IsEditFault1 v payload e r) f first.0 first.1
unaccepted_first v payload e r f bad = absurd bad

-- an edit that is refused before a keyslot is opened ends so
pub early_ends : (v : List ℕ) (payload : Data) (e : Edit) (r : List ℕ) (f : EditFault) → edit_row f < 4 → Refusal1 v payload e r f → EndsBy1 payload v e r f v
early_ends v payload e r fault.Memory low first = absurd (omega (arith, low))
early_ends v payload e r fault.Device low first = absurd (omega (arith, low))
early_ends v payload e r f low first = (first, refl)
