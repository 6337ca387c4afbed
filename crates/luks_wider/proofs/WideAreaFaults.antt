-- The faults of an area, from those of its text and of its value.
use Rattle.std.proofs.Common.{◌≢◌, true, false, refl, ◌≡◌, ℕ, List, [], ◌∷◌, length, subst, arith, sym, ap, ◌∙◌, unwrap_or}
use Rattle.serde_json.specs.Data.{Data}
use Rattle.serde_json.specs.Read.{read}
use Rattle.luks_area.specs.First.{IsLeast, NotAfter}
use Rattle.luks_rules.specs.declared.fault.MetaFault.{MetaFault}
use Rattle.luks_rules.specs.declared.fault.MetaFault.TheVariants as fault
use Rattle.luks_json.specs.AreaText.{IsBadJson, IsJsonFault, Json, JsonText}
use Rattle.luks_json.proofs.AreaKinds.{not_bad}
use Rattle.luks_json.proofs.AreaTexts.{one_text}
use Rattle.luks_json.specs.declared.fault.JsonFault.{JsonFault}
use Rattle.luks_json.specs.declared.fault.JsonFault.TheVariants as json
use Rattle.serde_json.specs.Written.{has_float}
use Rattle.luks_area.specs.declared.area.AreaName.TheVariants.{Head1, Head2, Slot, Segment}
use Rattle.luks_rules.specs.declared.place.Test.{Test}
use Rattle.luks_rules.specs.declared.place.Test.TheVariants as test
use Rattle.luks_rules.specs.Sizes.{has_other_size, has_slot_outside}
use Rattle.luks_wider.specs.Accepted.{IsWideArea}
use Rattle.luks_wider.specs.Places.{has_wide_fault, HasWidePath}
use Rattle.luks_wider.specs.WideFaults.{has_small_key_area, HasWideDataFault, IsWideDataFault, IsWideFaultless, IsWideMetaFault}
use Rattle.luks_wider.proofs.WideRefusing.{faultless_of}
use Rattle.luks_rules.specs.MetaFault.{meta_key, of_json}

pub area_least : (area : List ℕ) → ((text : List ℕ) → JsonText area text → ⊥) → IsLeast meta_key (IsWideMetaFault area) fault.JsonArea
area_least area none = (none, λ g h. by g)
  where
    by : (g : MetaFault) → NotAfter (1 ∷ []) (meta_key g)
    by fault.JsonArea = (omega arith, λ _. tt)
    by fault.BadJson = (omega arith, λ e. absurd (omega arith))
    by fault.NotWhole = (omega arith, λ e. absurd (omega arith))
    by (fault.Shape path) = (omega arith, λ e. absurd (omega arith))
    by (fault.Kind path) = (omega arith, λ e. absurd (omega arith))
    by (fault.NoSuchName path) = (omega arith, λ e. absurd (omega arith))
    by (fault.Assigned path) = (omega arith, λ e. absurd (omega arith))
    by fault.Sizes = (omega arith, λ e. absurd (omega arith))
    by (fault.AreaTooSmall n) = (omega arith, λ e. absurd (omega arith))
    by (fault.Region name) = (omega arith, λ e. absurd (omega arith))
    by fault.Memory = (omega arith, λ e. absurd (omega arith))

-- of an area with a text that is no value
pub bad_least : (area : List ℕ) → IsBadJson area → IsLeast meta_key (IsWideMetaFault area) fault.BadJson
bad_least area bad = (bad, by)
  where
    by : (g : MetaFault) → IsWideMetaFault area g → NotAfter (2 ∷ []) (meta_key g)
    by fault.JsonArea h = absurd (h bad.text bad.placed)
    by fault.BadJson h = (omega arith, λ _. tt)
    by fault.NotWhole h = (omega arith, λ e. absurd (omega arith))
    by (fault.Shape path) h = (omega arith, λ e. absurd (omega arith))
    by (fault.Kind path) h = (omega arith, λ e. absurd (omega arith))
    by (fault.NoSuchName path) h = (omega arith, λ e. absurd (omega arith))
    by (fault.Assigned path) h = (omega arith, λ e. absurd (omega arith))
    by fault.Sizes h = (omega arith, λ e. absurd (omega arith))
    by (fault.AreaTooSmall n) h = (omega arith, λ e. absurd (omega arith))
    by (fault.Region name) h = (omega arith, λ e. absurd (omega arith))
    by fault.Memory h = (omega arith, λ e. absurd (omega arith))

-- of an area from which no value was read
pub json_least : (area : List ℕ) (f : JsonFault) → IsJsonFault area f → of_json f ≢ fault.Memory → IsLeast meta_key (IsWideMetaFault area) (of_json f)
json_least area json.JsonArea h off = area_least area h
json_least area json.BadJson h off = bad_least area h
json_least area json.Memory h off = absurd (off refl)

pub text_there : (area : List ℕ) (f : JsonFault) → IsJsonFault area f → of_json f ≡ fault.Memory → (text : List ℕ) × JsonText area text
text_there area json.JsonArea h e = absurd (cc)
text_there area json.BadJson h e = absurd (cc)
text_there area json.Memory h e = h

-- ---- of a value that is accepted

path_none : (len : ℕ) (j : Data) → IsWideFaultless len j → (t : Test) (p : List ℕ) → HasWidePath t j p → ⊥
path_none len j f t p h =
    let off : has_wide_fault t j h.place ≡ false = f.places t h.place h.faulty.place in
    let on : has_wide_fault t j h.place ≡ true = h.faulty.fault in
    cc

pub data_none : (len : ℕ) (j : Data) → IsWideFaultless len j → (g : MetaFault) → IsWideDataFault len j g → ⊥
data_none len j f fault.JsonArea h = h
data_none len j f fault.BadJson h = h
data_none len j f fault.NotWhole h = let off : has_float j ≡ false = f.whole in cc
data_none len j f (fault.Shape path) h = path_none len j f test.Shape path.bytes h
data_none len j f (fault.Kind path) h = path_none len j f test.Kind path.bytes h
data_none len j f (fault.NoSuchName path) h = path_none len j f test.NoSuchName path.bytes h
data_none len j f (fault.Assigned path) h = path_none len j f test.Assigned path.bytes h
data_none len j f fault.Sizes h = let off : has_other_size len j ≡ false = f.sizes in cc
data_none len j f (fault.AreaTooSmall n) h = let off : has_small_key_area j n ≡ false = f.areas n h.0 in let on : has_small_key_area j n ≡ true = h.1 in cc
data_none len j f (fault.Region Head1) h = h
data_none len j f (fault.Region Head2) h = h
data_none len j f (fault.Region (Slot n)) h = let off : has_slot_outside len j n ≡ false = f.region n h.0 in let on : has_slot_outside len j n ≡ true = h.1 in cc
data_none len j f (fault.Region (Segment n)) h = h
data_none len j f fault.Memory h = h

pub memory_alone : (f : MetaFault) → (f ≢ fault.Memory → ⊥) → f ≡ fault.Memory
memory_alone fault.Memory h = refl
memory_alone fault.JsonArea h = absurd (h (λ e. cc))
memory_alone fault.BadJson h = absurd (h (λ e. cc))
memory_alone fault.NotWhole h = absurd (h (λ e. cc))
memory_alone (fault.Shape path) h = absurd (h (λ e. cc))
memory_alone (fault.Kind path) h = absurd (h (λ e. cc))
memory_alone (fault.NoSuchName path) h = absurd (h (λ e. cc))
memory_alone (fault.Assigned path) h = absurd (h (λ e. cc))
memory_alone fault.Sizes h = absurd (h (λ e. cc))
memory_alone (fault.AreaTooSmall n) h = absurd (h (λ e. cc))
memory_alone (fault.Region name) h = absurd (h (λ e. cc))

-- ---- of an area that holds a value

-- an area holds one value at most
pub one_value : (area : List ℕ) (i j : Data) → Json area i → Json area j → i ≡ j
one_value area i j p q = ap (λ o. unwrap_or o i) (sym p.reads ∙ ap read (one_text area p.text q.text p.placed q.placed) ∙ q.reads)

of_value : (area : List ℕ) (j : Data) → Json area j → (g : MetaFault) → HasWideDataFault area g → IsWideDataFault (length area) j g
of_value area j json g h =
    let e : h.value ≡ j = one_value area h.value j h.json json in
    let P : Data → Type 0 = λ d. IsWideDataFault (length area) d g in
    subst P e h.fault

-- what is a fault of the area is one of its value
pub into_value : (area : List ℕ) (j : Data) → Json area j → (g : MetaFault) → IsWideMetaFault area g → IsWideDataFault (length area) j g
into_value area j json fault.JsonArea h = h json.text json.placed
into_value area j json fault.BadJson h = not_bad area j json h
into_value area j json fault.NotWhole h = of_value area j json _ h
into_value area j json (fault.Shape path) h = of_value area j json _ h
into_value area j json (fault.Kind path) h = of_value area j json _ h
into_value area j json (fault.NoSuchName path) h = of_value area j json _ h
into_value area j json (fault.Assigned path) h = of_value area j json _ h
into_value area j json fault.Sizes h = of_value area j json _ h
into_value area j json (fault.AreaTooSmall n) h = of_value area j json _ h
into_value area j json (fault.Region name) h = of_value area j json _ h
into_value area j json fault.Memory h = h

pub from_value : (area : List ℕ) (j : Data) → Json area j → (g : MetaFault) → IsWideDataFault (length area) j g → IsWideMetaFault area g
from_value area j json fault.JsonArea h = elim h [ ]
from_value area j json fault.BadJson h = elim h [ ]
from_value area j json fault.NotWhole h = record { value = j; json = json; fault = h }
from_value area j json (fault.Shape path) h = record { value = j; json = json; fault = h }
from_value area j json (fault.Kind path) h = record { value = j; json = json; fault = h }
from_value area j json (fault.NoSuchName path) h = record { value = j; json = json; fault = h }
from_value area j json (fault.Assigned path) h = record { value = j; json = json; fault = h }
from_value area j json fault.Sizes h = record { value = j; json = json; fault = h }
from_value area j json (fault.AreaTooSmall n) h = record { value = j; json = json; fault = h }
from_value area j json (fault.Region name) h = record { value = j; json = json; fault = h }
from_value area j json fault.Memory h = h

pub value_least : (area : List ℕ) (j : Data) (f : MetaFault) → Json area j → IsLeast meta_key (IsWideDataFault (length area) j) f → IsLeast meta_key (IsWideMetaFault area) f
value_least area j f json least = (from_value area j json f least.0, λ g h. least.1 g (into_value area j json g h))

pub value_none : (area : List ℕ) (j : Data) → Json area j → ((g : MetaFault) → IsWideDataFault (length area) j g → ⊥) → (g : MetaFault) → IsWideMetaFault area g → ⊥
value_none area j json none g h = none g (into_value area j json g h)

-- ---- of an area that is accepted

pub accepted_none : (area : List ℕ) (j : Data) → IsWideArea area j → (g : MetaFault) → IsWideMetaFault area g → ⊥
accepted_none area j m g h = value_none area j m.json (data_none (length area) j (faultless_of (length area) j m.rules)) g h

-- an area that is accepted is refused for a failed allocation alone
pub memory_where : (area : List ℕ) (f : MetaFault) → (f ≢ fault.Memory → IsLeast meta_key (IsWideMetaFault area) f) → (j : Data) → IsWideArea area j → f ≡ fault.Memory
memory_where area f least j m = memory_alone f (λ off. accepted_none area j m f (least off).0)
