-- What the verdict on a header says of the volume.
use Rattle.std.proofs.Common.{◌≡◌, ℕ, List, length, subst, refl, sym}
use Rattle.luks_area.specs.First.{IsLeast}
use Rattle.luks_area.specs.Ranges.{part}
use Rattle.luks_area.specs.declared.area.AreaName.TheVariants.{Slot}
use Rattle.luks2_header.specs.Selection.{luks1, Chosen}
use Rattle.luks2_header.proofs.ChoiceFacts.{choices_agree}
use Rattle.luks_reading.specs.declared.check_fault.CheckFault.{CheckFault}
use Rattle.luks_reading.specs.declared.header.ChosenCopy.{ChosenCopy}
use Rattle.luks_reading.specs.declared.report.Data.{Data}
use Rattle.luks_reading.specs.Checked.{check_key, First, IsFault, IsFaultAs, IsLuks1Fault, IsLuks1Volume, WellFormed}
use Rattle.luks_reading.specs.Header.{IsChosenCopy}
use Rattle.luks_reading.proofs.VolumeLaws.{well_formed_faultless}
use Rattle.luks_converting.specs.Accepted.{HasAreasInside, IsHeaderOf, IsOther}
use Rattle.luks_converting.specs.Source.{source_size, source_start}

-- each keyslot's area is inside the volume
pub areas_inside : (h : List ℕ) (payload : Data) (total : ℕ) → IsLuks1Volume h payload total → HasAreasInside h total
areas_inside h payload total whole n low = whole.fit.inside (Slot n) (record { start = source_start h n; len = source_size h n }) (low, refl, refl)

module _ (h : List ℕ) (payload : Data) (total : ℕ) (v : List ℕ) (chosen : Chosen v luks1) (begins : h ≡ part v 0 592) (size : length v ≡ total) where
  pub header_of : IsLuks1Volume h payload total → IsHeaderOf h payload v
  header_of whole =
      let well : WellFormed v payload = record {
        choice = luks1;
        chosen = chosen;
        formed = subst (λ t. IsLuks1Volume (part v 0 592) payload t) (sym size) (subst (λ b. IsLuks1Volume b payload total) begins whole);
      } in
      record { chosen = chosen; begins = begins; faultless = well_formed_faultless v payload well }

  fault_out : (f : CheckFault) → IsFault v payload f → IsLuks1Fault h payload total f
  fault_out f x =
      let as_luks1 : IsLuks1Fault (part v 0 592) payload (length v) f = subst (λ c. IsFaultAs v payload c f) (choices_agree v x.choice luks1 x.chosen chosen) x.fault in
      subst (λ t. IsLuks1Fault h payload t f) size (subst (λ b. IsLuks1Fault b payload (length v) f) (sym begins) as_luks1)

  fault_in : (f : CheckFault) → IsLuks1Fault h payload total f → IsFault v payload f
  fault_in f x = record {
    choice = luks1;
    chosen = chosen;
    fault = subst (λ t. IsLuks1Fault (part v 0 592) payload t f) (sym size) (subst (λ b. IsLuks1Fault b payload total f) begins x);
  }

  pub first_fault : (f : CheckFault) → IsLeast check_key (IsLuks1Fault h payload total) f → First v payload f
  first_fault f least = (fault_in f least.0, λ g bad. least.1 g (fault_out g bad))

-- a LUKS2 volume that was accepted
pub other_of : (v : List ℕ) (payload : Data) (copy : ChosenCopy) → IsChosenCopy v copy → WellFormed v payload → IsOther v payload
other_of v payload copy is well = record {
  luks2 = record { place = copy.header.hdr_offset; copies = copy.copies; chosen = is.chosen };
  faultless = well_formed_faultless v payload well;
}
