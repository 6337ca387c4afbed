-- What was judged of a header holds of each device that begins with it.
use Rattle.std.proofs.Common.{◌≡◌, ℕ, List, length, refl, subst}
use Rattle.luks_area.specs.First.{IsLeast}
use Rattle.luks_area.specs.Ranges.{part}
use Rattle.luks2_header.proofs.ChoiceFacts.{choices_agree}
use Rattle.luks2_header.specs.Header2.{header_at}
use Rattle.luks2_header.specs.Selection.{luks1, luks2, nothing, Choice, Chosen}
use Rattle.luks2_header.specs.declared.selection.Copies.{Copies}
use Rattle.luks_reading.specs.Checked.{check_key, First, IsFaultAs, IsLuks1Fault, IsLuks1Volume, IsLuks2Fault, IsLuks2Volume}
use Rattle.luks_reading.specs.Header.{json_at}
use Rattle.luks_reading.specs.declared.check_fault.CheckFault.{CheckFault}
use Rattle.luks_reading.specs.declared.report.Data.{Data}
use Rattle.luks_keeping.specs.Judged.{IsFaultOn, IsFaultOnAs, IsFormedOn}

-- the first fault by what counts
pub first_on : (v : List ℕ) (payload : Data) (total : ℕ) (c : Choice) (f : CheckFault) → Chosen v c → IsLeast check_key (IsFaultOnAs v payload total c) f → IsLeast check_key (IsFaultOn v payload total) f
first_on v payload total c f chosen least = (
  record { choice = c; chosen = chosen; fault = least.0 },
  λ g is. least.1 g (subst (λ d. IsFaultOnAs v payload total d g) (choices_agree v is.choice c is.chosen chosen) is.fault),
)

pub first_on1 : (v h : List ℕ) (payload : Data) (total : ℕ) (f : CheckFault) → Chosen v luks1 → h ≡ part v 0 592 → IsLeast check_key (IsLuks1Fault h payload total) f
    → IsLeast check_key (IsFaultOn v payload total) f
first_on1 v h payload total f chosen head least = first_on v payload total luks1 f chosen (subst (λ b. IsLeast check_key (IsLuks1Fault b payload total) f) head least)

pub first_on2 : (v : List ℕ) (o : ℕ) (copies : Copies) (payload : Data) (total : ℕ) (f : CheckFault) → Chosen v (luks2 o copies)
    → IsLeast check_key (IsLuks2Fault (header_at v o) (json_at v o) payload total) f → IsLeast check_key (IsFaultOn v payload total) f
first_on2 v o copies payload total f chosen least = first_on v payload total (luks2 o copies) f chosen least

pub formed_on1 : (v h : List ℕ) (payload : Data) (total : ℕ) → Chosen v luks1 → h ≡ part v 0 592 → IsLuks1Volume h payload total → IsFormedOn v payload total
formed_on1 v h payload total chosen head formed = record { choice = luks1; chosen = chosen; formed = subst (λ b. IsLuks1Volume b payload total) head formed }

pub formed_on2 : (v : List ℕ) (o : ℕ) (copies : Copies) (payload : Data) (total : ℕ) → Chosen v (luks2 o copies) → IsLuks2Volume (header_at v o) (json_at v o) payload total
    → IsFormedOn v payload total
formed_on2 v o copies payload total chosen formed = record { choice = luks2 o copies; chosen = chosen; formed = formed }

-- ---- on its own device

fault_in : (v : List ℕ) (payload : Data) (c : Choice) (f : CheckFault) → IsFaultOnAs v payload (length v) c f → IsFaultAs v payload c f
fault_in v payload nothing f x = absurd x
fault_in v payload other f x = x

some_counts : (v : List ℕ) (payload : Data) (total : ℕ) (c : Choice) (f : CheckFault) → IsFaultOnAs v payload total c f → c ≡ nothing → ⊥
some_counts v payload total luks1 f x is = (let e : luks1 ≡ nothing = is in cc)
some_counts v payload total (luks2 o copies) f x is = (let e : luks2 o copies ≡ nothing = is in cc)
some_counts v payload total nothing f x is = x

fault_out : (v : List ℕ) (payload : Data) (c : Choice) (f : CheckFault) → (c ≡ nothing → ⊥) → IsFaultAs v payload c f → IsFaultOnAs v payload (length v) c f
fault_out v payload nothing f some x = absurd (some refl)
fault_out v payload other f some x = x

-- there the first fault is the volume's
pub own_first : (v : List ℕ) (payload : Data) (f : CheckFault) → IsLeast check_key (IsFaultOn v payload (length v)) f → First v payload f
own_first v payload f least = (
  record { choice = least.0.choice; chosen = least.0.chosen; fault = fault_in v payload least.0.choice f least.0.fault },
  λ g bad. least.1 g (record {
    choice = least.0.choice;
    chosen = least.0.chosen;
    fault = fault_out v payload least.0.choice g (some_counts v payload (length v) least.0.choice f least.0.fault)
        (subst (λ d. IsFaultAs v payload d g) (choices_agree v bad.choice least.0.choice bad.chosen least.0.chosen) bad.fault);
  }),
)
