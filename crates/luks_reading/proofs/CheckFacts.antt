-- What was judged of a header says what holds of the volume.
use Rattle.std.proofs.Common.{◌≡◌, ℕ, List, length, subst, sym, arith, inl, inr}
use Rattle.std.specs.Prelude.{Result, Ok, Err, IfErr, MatchResult, OnOk, ⊤}
use Rattle.luks_area.specs.declared.areas.Entry.{Entry}
use Rattle.luks_area.specs.First.{NotAfter, IsLeast}
use Rattle.luks_area.specs.Ranges.{part}
use Rattle.luks1_header.specs.declared.fault.HeadFault.{HeadFault}
use Rattle.luks2_header.specs.declared.selection.Copies.{Copies}
use Rattle.luks2_header.specs.Header2.{header_at}
use Rattle.luks2_header.specs.Selection.{Choice, luks1, luks2, nothing, Chosen}
use Rattle.luks2_header.proofs.ChoiceFacts.{choices_agree}
use Rattle.luks_rules.specs.declared.fault.MetaFault.{MetaFault}
use Rattle.luks_reading.specs.declared.check_fault.CheckFault.{CheckFault}
use Rattle.luks_reading.specs.declared.check_fault.CheckFault.TheVariants.{Head, Meta, Area, Device, Memory}
use Rattle.luks_reading.specs.declared.report.Data.{Data}
use Rattle.luks_reading.specs.Checked.{check_key, IsLuks1Fault, IsLuks2Volume, IsLuks2Fault, HasLuks2Area, WellFormedAs, HasAreaAs, IsFaultAs, WellFormed, AreaOf, IsFault, First, IsCheckRefusal}
use Rattle.luks_reading.specs.declared.read_fault.ReadFault.{ReadFault}
use Rattle.luks_reading.specs.declared.read_fault.ReadFault.TheVariants as reading
use Rattle.luks_reading.specs.Conversions.{unread_checked}
use Rattle.luks_reading.specs.Header.{json_at, read_key, IsReadFaultAs, IsUnread}
use Rattle.luks_reading.specs.Listing.{Lists}
use Rattle.luks_reading.specs.Reported.{IsFromOutside}
use Rattle.luks_reading.proofs.Luks2FaultFacts.{before_segment, meta_cases, to_luks2_fault}
use Rattle.luks_reading.proofs.ReadFaults.{as_unread}

-- LUKS2: acceptance

pub luks2_accepted : (v : List ℕ) (payload : Data) (o : ℕ) (copies : Copies) (total : ℕ) → Chosen v (luks2 o copies)
    → length v ≡ total → IsLuks2Volume (header_at v o) (json_at v o) payload total → WellFormed v payload
luks2_accepted v payload o copies total chosen size well = record {
  choice = luks2 o copies;
  chosen = chosen;
  formed = subst (IsLuks2Volume (header_at v o) (json_at v o) payload) (sym size) well;
}

-- ---- a header that isn't read

head_checked : (v : List ℕ) (payload : Data) (c : Choice) (f : HeadFault) → IsReadFaultAs v c (reading.Head f) → IsFaultAs v payload c (Head f)
head_checked v payload luks1 f x = absurd x
head_checked v payload other f x = x

meta_checked : (v : List ℕ) (payload : Data) (c : Choice) (f : MetaFault) → IsReadFaultAs v c (reading.Meta f) → IsFaultAs v payload c (Meta f)
meta_checked v payload (luks2 o copies) f x = to_luks2_fault (json_at v o) payload f x
meta_checked v payload other f x = absurd x

-- where the header isn't read, the head faults of a check are those of reading it
head_read : (v : List ℕ) (payload : Data) (c : Choice) (r : ReadFault) (f : HeadFault) → IsReadFaultAs v c r → IsFaultAs v payload c (Head f)
    → IsReadFaultAs v c (reading.Head f)
head_read v payload luks1 r f unread x = absurd unread
head_read v payload other r f unread x = x

meta_after : (v : List ℕ) (payload : Data) (c : Choice) (f g : MetaFault) → IsLeast read_key (IsReadFaultAs v c) (reading.Meta f)
    → IsFaultAs v payload c (Meta g) → NotAfter (check_key (Meta f)) (check_key (Meta g))
meta_after v payload (luks2 o copies) f g least x = elim (meta_cases (json_at v o) payload g x) [
  | inl own ↦ least.1 (reading.Meta g) own
  | inr other ↦ subst (λ k. NotAfter (check_key (Meta f)) (check_key (Meta k))) (sym other.1.0)
      (omega arith, λ _. before_segment (json_at v o) f other.0 least.0)
]
meta_after v payload other f g least x = absurd least.0

unread_first : (v : List ℕ) (payload : Data) (c : Choice) (f : ReadFault) → IsLeast read_key (IsReadFaultAs v c) f
    → IsLeast check_key (IsFaultAs v payload c) (unread_checked f)
unread_first v payload c (reading.Head f) least = (head_checked v payload c f least.0, after)
  where
    after : (g : CheckFault) → IsFaultAs v payload c g → NotAfter (check_key (Head f)) (check_key g)
    after (Head g) is = least.1 (reading.Head g) (head_read v payload c (reading.Head f) g least.0 is)
    after other is = (omega arith, λ e. absurd (omega (arith, e)))
unread_first v payload c (reading.Meta f) least = (meta_checked v payload c f least.0, after)
  where
    after : (g : CheckFault) → IsFaultAs v payload c g → NotAfter (check_key (Meta f)) (check_key g)
    after (Head g) is = least.1 (reading.Head g) (head_read v payload c (reading.Meta f) g least.0 is)
    after (Meta g) is = meta_after v payload c f g least is
    after other is = (omega arith, λ e. absurd (omega (arith, e)))
unread_first v payload luks1 reading.Device least = absurd least.0
unread_first v payload (luks2 o copies) reading.Device least = absurd least.0
unread_first v payload nothing reading.Device least = absurd least.0
unread_first v payload luks1 reading.Memory least = absurd least.0
unread_first v payload (luks2 o copies) reading.Memory least = absurd least.0
unread_first v payload nothing reading.Memory least = absurd least.0

-- ---- by the one thing that counts of each volume

module _ (only : (v : List ℕ) (c d : Choice) → Chosen v c → Chosen v d → c ≡ d) where
  -- the first fault by what counts is the volume's first fault
  pub first_as : (v : List ℕ) (payload : Data) (c : Choice) (f : CheckFault) → Chosen v c
      → IsLeast check_key (IsFaultAs v payload c) f → First v payload f
  first_as v payload c f chosen least = (
    record { choice = c; chosen = chosen; fault = least.0 },
    λ g is. least.1 g (subst (λ d. IsFaultAs v payload d g) (only v is.choice c is.chosen chosen) is.fault),
  )

  pub unread_refused : (v : List ℕ) (payload : Data) (f : ReadFault) → IsUnread v f → IsCheckRefusal v payload (unread_checked f)
  unread_refused v payload (reading.Head f) x =
      let counted = as_unread v (reading.Head f) x in first_as v payload counted.choice (Head f) counted.chosen (unread_first v payload counted.choice (reading.Head f) counted.least)
  unread_refused v payload (reading.Meta f) x =
      let counted = as_unread v (reading.Meta f) x in first_as v payload counted.choice (Meta f) counted.chosen (unread_first v payload counted.choice (reading.Meta f) counted.least)
  unread_refused v payload reading.Device x = tt
  unread_refused v payload reading.Memory x = x

-- ---- by what was judged

pub lists_as : (v : List ℕ) (payload : Data) (c : Choice) (es : List Entry) → Chosen v c
    → Lists es (HasAreaAs v payload c) → Lists es (AreaOf v payload)
lists_as v payload c es chosen lists = record {
  only = λ n a g. record { choice = c; chosen = chosen; area = lists.only n a g };
  all = λ n a g. lists.all n a (subst (λ d. HasAreaAs v payload d n a) (choices_agree v g.choice c g.chosen chosen) g.area);
}

pub formed_as : (v : List ℕ) (payload : Data) (c : Choice) → Chosen v c → WellFormed v payload → WellFormedAs v payload c
formed_as v payload c chosen well = subst (WellFormedAs v payload) (choices_agree v well.choice c well.chosen chosen) well.formed

-- LUKS1

pub luks1_first : (v : List ℕ) (payload : Data) (h : List ℕ) (total : ℕ) (f : CheckFault) → Chosen v luks1 → h ≡ part v 0 592 → length v ≡ total
    → IsLeast check_key (IsLuks1Fault h payload total) f → First v payload f
luks1_first v payload h total f chosen head size least =
    first_as choices_agree v payload luks1 f chosen
    (subst (λ t. IsLeast check_key (IsLuks1Fault (part v 0 592) payload t) f) (sym size)
    (subst (λ b. IsLeast check_key (IsLuks1Fault b payload total) f) head least))

-- LUKS2

pub luks2_areas_are : (v : List ℕ) (payload : Data) (o : ℕ) (copies : Copies) (total : ℕ) (es : List Entry) → Chosen v (luks2 o copies)
    → length v ≡ total → Lists es (HasLuks2Area (header_at v o) (json_at v o) payload total) → Lists es (AreaOf v payload)
luks2_areas_are v payload o copies total es chosen size lists =
    lists_as v payload (luks2 o copies) es chosen
    (subst (λ t. Lists es (HasLuks2Area (header_at v o) (json_at v o) payload t)) (sym size) lists)

pub luks2_first : (v : List ℕ) (payload : Data) (o : ℕ) (copies : Copies) (total : ℕ) (f : CheckFault) → Chosen v (luks2 o copies)
    → length v ≡ total → IsLeast check_key (IsLuks2Fault (header_at v o) (json_at v o) payload total) f → First v payload f
luks2_first v payload o copies total f chosen size least =
    first_as choices_agree v payload (luks2 o copies) f chosen
    (subst (λ t. IsLeast check_key (IsLuks2Fault (header_at v o) (json_at v o) payload t) f) (sym size) least)

-- a refusal of a volume without faults comes from outside

pub outside : (v : List ℕ) (payload : Data) (f : CheckFault) → ((g : CheckFault) → IsFault v payload g → ⊥) → IsCheckRefusal v payload f → IsFromOutside f
outside v payload (Head f) none is = none (Head f) is.0
outside v payload (Meta f) none is = none (Meta f) is.0
outside v payload (Area f) none is = none (Area f) is.0
outside v payload other none is = tt

-- the first fault of a volume is a refusal

no_outside : (v : List ℕ) (payload : Data) (c : Choice) → IsFaultAs v payload c Memory → ⊥
no_outside v payload luks1 x = x
no_outside v payload (luks2 o copies) x = x
no_outside v payload nothing x = x

pub first_refused : (v : List ℕ) (payload : Data) (f : CheckFault) → First v payload f → IsCheckRefusal v payload f
first_refused v payload Device x = tt
first_refused v payload Memory x = absurd (no_outside v payload x.0.choice x.0.fault)
first_refused v payload other x = x

-- ---- of results

-- what follows from a fact for `Ok` holds for `Ok`
pub on_ok : {T E P Q : Type 0} → (r : Result T E) → (P → Q) → OnOk r P → OnOk r Q
on_ok (Ok x) step is = step is
on_ok (Err e) step is = tt

pub outside_result : {T : Type 0} (v : List ℕ) (payload : Data) (r : Result T CheckFault) → ((g : CheckFault) → IsFault v payload g → ⊥)
    → IfErr r (IsCheckRefusal v payload) → MatchResult r (λ _. ⊤) IsFromOutside
outside_result v payload (Ok x) none is = tt
outside_result v payload (Err f) none is = outside v payload f none is
