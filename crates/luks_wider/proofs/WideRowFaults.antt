-- The rows of faults that have a path.
use Rattle.std.proofs.Common.{◌≡◌, ℕ, ◌<◌, ◌≤◌, Bool, [], ◌∷◌, Err, true, false, refl, arith, inl, inr}
use Rattle.std.proofs.lemmas.Bool.{cases_lt}
use Rattle.luks_rules.specs.Sizes.{IsFirst, has_slot_outside}
use Rattle.arrayvec.specs.declared.array_string.ArrayString.{ArrayString}
use Rattle.serde_json.specs.Data.{Data}
use Rattle.luks_area.specs.First.{IsLeast, JudgesRow, NotAfter}
use Rattle.luks_area.specs.declared.area.AreaName.TheVariants.{Head1, Head2, Slot, Segment}
use Rattle.luks_rules.specs.declared.fault.MetaFault.{MetaFault}
use Rattle.luks_rules.specs.declared.fault.MetaFault.TheVariants as fault
use Rattle.luks_wider.specs.declared.place.WidePlace.{WidePlace}
use Rattle.luks_rules.specs.declared.place.Test.{Test}
use Rattle.luks_rules.specs.declared.place.Test.TheVariants as test
use Rattle.luks_rules.specs.MetaFault.{fault_of, meta_place, meta_row, test_row}
use Rattle.luks_wider.specs.Places.{HasWidePath, IsWideFaulty, wide_place_path}
use Rattle.luks_wider.specs.WideFaults.{has_small_key_area, IsWideDataFault}

-- a fault of the test's row has a path where the test finds a fault
pub of_row : (t : Test) (len : ℕ) (j : Data) (g : MetaFault) → IsWideDataFault len j g → meta_row g ≡ test_row t → HasWidePath t j (meta_place g)
of_row test.Shape len j (fault.Shape path) h e = h
of_row test.Kind len j (fault.Kind path) h e = h
of_row test.NoSuchName len j (fault.NoSuchName path) h e = h
of_row test.Assigned len j (fault.Assigned path) h e = h
of_row test.Shape len j _ h e = absurd (omega arith)
of_row test.Kind len j _ h e = absurd (omega arith)
of_row test.NoSuchName len j _ h e = absurd (omega arith)
of_row test.Assigned len j _ h e = absurd (omega arith)

later : (t : Test) (j : Data) (p : WidePlace) (path : ArrayString 32) → IsLeast wide_place_path (IsWideFaulty t j) p → path.bytes ≡ wide_place_path p
    → (len : ℕ) (g : MetaFault) → IsWideDataFault len j g → meta_row g ≡ test_row t → NotAfter path.bytes (meta_place g)
later t j p path least is len g h e =
    let q = of_row t len j g h e in
    rw (is, q.is) (least.1 q.place q.faulty)

pub judged_least : (t : Test) (j : Data) (p : WidePlace) (path : ArrayString 32) → IsLeast wide_place_path (IsWideFaulty t j) p → path.bytes ≡ wide_place_path p
    → (len : ℕ) → JudgesRow {X = Unit {0}} meta_row meta_place (IsWideDataFault len j) (test_row t) (Err (fault_of t path))
judged_least test.Shape j p path least is len = (refl, record { place = p; faulty = least.0; is = is }, later test.Shape j p path least is len)
judged_least test.Kind j p path least is len = (refl, record { place = p; faulty = least.0; is = is }, later test.Kind j p path least is len)
judged_least test.NoSuchName j p path least is len = (refl, record { place = p; faulty = least.0; is = is }, later test.NoSuchName j p path least is len)
judged_least test.Assigned j p path least is len = (refl, record { place = p; faulty = least.0; is = is }, later test.Assigned j p path least is len)

-- ---- the rows of faults that have a number

no_less : (test : ℕ → Bool) (n m : ℕ) → IsFirst test n → test m ≡ true → n ≤ m
no_less test n m first it = elim (cases_lt m n) [
  | inl lt ↦ absurd (let no : test m ≡ false = first.first m lt in cc)
  | inr ge ↦ ge
]

pub small_none : (len : ℕ) (j : Data) → ((n : ℕ) → n < 32 → has_small_key_area j n ≡ false) → (g : MetaFault) → IsWideDataFault len j g → meta_row g ≡ 9 → ⊥
small_none len j none (fault.AreaTooSmall n) h e = let no : has_small_key_area j n ≡ false = none n h.0 in let yes : has_small_key_area j n ≡ true = h.1 in cc
small_none len j none _ h e = absurd (omega arith)

pub small_least : (len : ℕ) (j : Data) (n : ℕ) → IsFirst (has_small_key_area j) n → (g : MetaFault) → IsWideDataFault len j g → meta_row g ≡ 9 → NotAfter (n ∷ []) (meta_place g)
small_least len j n first (fault.AreaTooSmall m) h e = (no_less (has_small_key_area j) n m first h.1, λ _. tt)
small_least len j n first _ h e = absurd (omega arith)

pub region_none : (len : ℕ) (j : Data) → ((n : ℕ) → n < 32 → has_slot_outside len j n ≡ false) → (g : MetaFault) → IsWideDataFault len j g → meta_row g ≡ 10 → ⊥
region_none len j none (fault.Region (Slot n)) h e = let no : has_slot_outside len j n ≡ false = none n h.0 in let yes : has_slot_outside len j n ≡ true = h.1 in cc
region_none len j none (fault.Region Head1) h e = h
region_none len j none (fault.Region Head2) h e = h
region_none len j none (fault.Region (Segment n)) h e = h
region_none len j none _ h e = absurd (omega arith)

pub region_least : (len : ℕ) (j : Data) (n : ℕ) → IsFirst (has_slot_outside len j) n → (g : MetaFault) → IsWideDataFault len j g → meta_row g ≡ 10 → NotAfter (2 ∷ n ∷ []) (meta_place g)
region_least len j n first (fault.Region (Slot m)) h e = (omega arith, λ _. (no_less (has_slot_outside len j) n m first h.1, λ _. tt))
region_least len j n first (fault.Region Head1) h e = elim h [ ]
region_least len j n first (fault.Region Head2) h e = elim h [ ]
region_least len j n first (fault.Region (Segment m)) h e = elim h [ ]
region_least len j n first _ h e = absurd (omega arith)
