-- A device that is a well formed volume with a header has no fault with it.
use Rattle.std.proofs.Common.{◌≡◌, ℕ, List, length, true, subst, inl, inr}
use Rattle.serde_json.specs.Data.{Data as Value}
use Rattle.luks_area.specs.Area.{Fit}
use Rattle.luks_area.specs.Ranges.{part}
use Rattle.luks_area.specs.declared.area.Area.{Area as TheArea}
use Rattle.luks_area.specs.declared.area.AreaName.{AreaName}
use Rattle.luks1_header.proofs.Luks1FaultFacts.{sound}
use Rattle.luks2_header.proofs.ChoiceFacts.{choices_agree, uuid_sound}
use Rattle.luks2_header.specs.Header2.{hdr_size, header_at, uuid_field}
use Rattle.luks2_header.specs.Selection.{Choice, luks1, luks2, nothing}
use Rattle.luks_rules.proofs.AreaFaults.{one_value}
use Rattle.luks_rules.proofs.Deciding.{metadata_faultless}
use Rattle.luks_meta.specs.Sizes.{has_segment_below}
use Rattle.luks_reading.proofs.ListedAreaFacts.{no_area_fault}
use Rattle.luks_reading.proofs.Luks2FaultFacts.{meta_cases, segment_breaks}
use Rattle.luks_reading.specs.Checked.{HasLuks2Area, HasSegmentBelow, IsLuks1Fault, IsLuks1Volume, IsLuks2Fault, IsLuks2Volume}
use Rattle.luks_reading.specs.Header.{json_at}
use Rattle.luks_reading.specs.Layout1.{Luks1Area}
use Rattle.luks_reading.specs.Layout2.{Luks2Area}
use Rattle.luks_reading.specs.declared.check_fault.CheckFault.{CheckFault}
use Rattle.luks_reading.specs.declared.check_fault.CheckFault.TheVariants.{Head, Meta, Area}
use Rattle.luks_reading.specs.declared.report.Data.{Data}
use Rattle.luks_keeping.specs.Judged.{IsFaultOn, IsFaultOnAs, IsFormedOn, IsFormedOnAs}

sound1 : (h : List ℕ) (payload : Data) (total : ℕ) → IsLuks1Volume h payload total → (f : CheckFault) → IsLuks1Fault h payload total f → ⊥
sound1 h payload total well (Head f) is = sound h well.header.0 well.header.1 f is
sound1 h payload total well (Area f) is = no_area_fault (Luks1Area h payload total) total f well.fit is
sound1 h payload total well other is = is

module _ (b json : List ℕ) (payload : Data) (total : ℕ) (well : IsLuks2Volume b json payload total) where
  as_own : (n : AreaName) (a : TheArea) → HasLuks2Area b json payload total n a → Luks2Area well.layout.0 (hdr_size b) payload total n a
  as_own n a g = subst (λ (i : Value). Luks2Area i (hdr_size b) payload total n a) (one_value json g.value well.layout.0 g.holds well.layout.1.metadata.json) g.area

  fit2 : Fit (HasLuks2Area b json payload total) total
  fit2 = record {
    inside = λ n a g. well.layout.1.fit.inside n a (as_own n a g);
    disjoint = λ m n p q gm gn. well.layout.1.fit.disjoint m n p q (as_own m p gm) (as_own n q gn);
  }

  below : (n : ℕ) → HasSegmentBelow json payload n → ⊥
  below n has = segment_breaks (length json) well.layout.0 n has.numbered
      (subst (λ (i : Value). has_segment_below (length json) i n ≡ true) (one_value json has.value well.layout.0 has.holds well.layout.1.metadata.json) has.below)
      (well.layout.1.segments has.here)

  sound2 : (f : CheckFault) → IsLuks2Fault b json payload total f → ⊥
  sound2 (Head f) is = uuid_sound (uuid_field b) well.uuid f is
  sound2 (Meta f) is = elim (meta_cases json payload f is) [
    | inl own ↦ (metadata_faultless json).1 (well.layout.0, well.layout.1.metadata) f own
    | inr other ↦ below other.0 other.1.1
  ]
  sound2 (Area f) is = no_area_fault (HasLuks2Area b json payload total) total f fit2 is
  sound2 other is = is

sound_as : (v : List ℕ) (payload : Data) (total : ℕ) (c : Choice) → IsFormedOnAs v payload total c → (f : CheckFault) → IsFaultOnAs v payload total c f → ⊥
sound_as v payload total luks1 well f is = sound1 (part v 0 592) payload total well f is
sound_as v payload total (luks2 o copies) well f is = sound2 (header_at v o) (json_at v o) payload total well f is
sound_as v payload total nothing well f is = well

pub faultless_on : (v : List ℕ) (payload : Data) (total : ℕ) → IsFormedOn v payload total → (f : CheckFault) → IsFaultOn v payload total f → ⊥
faultless_on v payload total well f is =
    sound_as v payload total well.choice well.formed f (subst (λ (c : Choice). IsFaultOnAs v payload total c f) (choices_agree v is.choice well.choice is.chosen well.chosen) is.fault)
