-- The set of areas that a list lists, and what a set that fits rules out.
use Rattle.std.proofs.Common.{◌≡◌, ℕ, ◌<◌, List, arith, ap}
use Rattle.luks_area.specs.declared.area.Area.{Area}
use Rattle.luks_area.specs.declared.area.AreaName.{AreaName}
use Rattle.luks_area.specs.declared.area.AreaFault.{AreaFault}
use Rattle.luks_area.specs.declared.area.AreaFault.TheVariants.{Outside, Overlap}
use Rattle.luks_area.specs.declared.areas.Entry.{Entry}
use Rattle.luks_area.specs.Area.{name_kind, name_number, Fit, IsAreaFault, area_key}
use Rattle.luks_area.specs.First.{IsLeast}
use Rattle.luks_area.specs.Names.{HasArea}
use Rattle.luks_reading.specs.Listing.{Lists}

pub fit_of : (es : List Entry) (areas : AreaName → Area → Type 0) (total : ℕ) → Lists es areas → Fit (HasArea es) total → Fit areas total
fit_of es areas total lists fit = record {
  inside = λ n a g. fit.inside n a (lists.all n a g);
  disjoint = λ m n a b gm gn. fit.disjoint m n a b (lists.all m a gm) (lists.all n b gn);
}

fault_of : (es : List Entry) (areas : AreaName → Area → Type 0) (total : ℕ) (f : AreaFault) → Lists es areas
    → IsAreaFault (HasArea es) total f → IsAreaFault areas total f
fault_of es areas total (Outside n) lists h = (h.0, (lists.only n h.0 h.1.0, h.1.1))
fault_of es areas total (Overlap m n) lists h =
    (h.0, (h.1.0, (lists.only m h.0 h.1.1.0, lists.only n h.1.0 h.1.1.1, h.1.1.2, h.1.1.3)))

listed_fault : (es : List Entry) (areas : AreaName → Area → Type 0) (total : ℕ) (f : AreaFault) → Lists es areas
    → IsAreaFault areas total f → IsAreaFault (HasArea es) total f
listed_fault es areas total (Outside n) lists h = (h.0, (lists.all n h.0 h.1.0, h.1.1))
listed_fault es areas total (Overlap m n) lists h =
    (h.0, (h.1.0, (lists.all m h.0 h.1.1.0, lists.all n h.1.0 h.1.1.1, h.1.1.2, h.1.1.3)))

pub least_of : (es : List Entry) (areas : AreaName → Area → Type 0) (total : ℕ) (f : AreaFault) → Lists es areas
    → IsLeast area_key (IsAreaFault (HasArea es) total) f → IsLeast area_key (IsAreaFault areas total) f
least_of es areas total f lists h = (fault_of es areas total f lists h.0, λ g is. h.1 g (listed_fault es areas total g lists is))

-- areas that fit have no fault
pub no_area_fault : (areas : AreaName → Area → Type 0) (total : ℕ) (f : AreaFault) → Fit areas total → IsAreaFault areas total f → ⊥
no_area_fault areas total (Outside n) fit h = let inside = fit.inside n h.0 h.1.0 in let past = h.1.1 in omega (arith, inside, past)
no_area_fault areas total (Overlap m n) fit h =
    fit.disjoint m n h.0 h.1.0 h.1.1.0 h.1.1.1
    (λ e. let lt : name_number m < name_number n = h.1.1.2.1 (ap name_kind e) in
    let same : name_number m ≡ name_number n = ap name_number e in
    omega (arith, lt, same))
    h.1.1.3.0 h.1.1.3.1.0 h.1.1.3.1.1
