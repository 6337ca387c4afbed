-- The areas of a converted volume, whose payload is elsewhere, are inside and disjoint.
use Rattle.std.proofs.Common.{◌≡◌, ◌≢◌, ℕ, ◌+◌, ◌≤◌, List, true, false, codes, Some, None, option_and_then, refl, sym, ap, ◌∙◌, arith, inl, inr}
use Rattle.std.proofs.lemmas.Bool.{cases_Bool, cases_eq, cases_lt}
use Rattle.serde_json.specs.Data.{Data as Value}
use Rattle.serde_json.specs.Find.{get}
use Rattle.luks_area.specs.Area.{Fit, IsInside, LiesIn}
use Rattle.luks_area.specs.declared.area.Area.{Area}
use Rattle.luks_area.specs.declared.area.AreaName.{AreaName}
use Rattle.luks_area.specs.declared.area.AreaName.TheVariants.{Head1, Head2, Slot, Segment}
use Rattle.luks_rules.specs.Faults.{object_at}
use Rattle.luks_rules.specs.Reading.{decimal_in}
use Rattle.luks_rules.specs.declared.table.Section.TheVariants.{Keyslots}
use Rattle.luks_making.specs.Conversions.{SaysSource}
use Rattle.luks_making.specs.Keyslots.{slot_value}
use Rattle.luks_making.specs.Unchanged.{SaysMembers}
use Rattle.luks1_header.specs.Header1.{entry}
use Rattle.luks_reading.specs.declared.report.Data.TheVariants.{Here, Elsewhere}
use Rattle.luks_reading.specs.Layout2.{Luks2Area, slot_number}
use Rattle.luks_converting.specs.Converted.{new_size, new_start}
use Rattle.luks_converting.specs.Source.{header_members, is_enabled, slot_members, HasRoom}
use Rattle.luks_converting.proofs.PlaceFacts.{ends, ends_by, from_region}
use Rattle.luks_converting.proofs.PlanFacts.{keyslot_there, new_slot}
use Rattle.luks_converting.proofs.SourceFacts.{low_of, no_some, slot_absent, slot_there, some_same}

module _ (h : List ℕ) (has : HasRoom h) where
  -- the areas by their names
  Bounds : AreaName → Area → Type 0
  Bounds Head1 a = (a.start ≡ 0) × (a.len ≡ 16384)
  Bounds Head2 a = (a.start ≡ 16384) × (a.len ≡ 16384)
  Bounds (Slot n) a = (is_enabled h n ≡ true) × (a.start ≡ new_start h n) × (a.len ≡ new_size h n)
  Bounds (Segment n) a = ⊥

  bounds_inside : (total : ℕ) → 16777216 ≤ total → (n : AreaName) (a : Area) → Bounds n a → IsInside a total
  unfolding Bounds
  bounds_inside total large (Slot n) a at = let start = at.1 in let len = at.2 in let end = ends h n at.0 has in omega (arith, start, len, end, large)
  bounds_inside total large (Segment n) a at = absurd at
  bounds_inside total large other a at = let start = at.0 in let len = at.1 in omega (arith, start, len, large)

  -- an area that ends where another begins, or before
  apart : (a b : Area) (p : ℕ) → a.start + a.len ≤ b.start → LiesIn p a → LiesIn p b → ⊥
  apart a b p before here there = let high = here.1 in let low = there.0 in absurd (omega (arith, before, high, low))

  slots_apart : (m n : ℕ) (a b : Area) → Bounds (Slot m) a → Bounds (Slot n) b → Slot m ≢ Slot n → (p : ℕ) → LiesIn p a → LiesIn p b → ⊥
  unfolding Bounds
  slots_apart m n a b x y other p here there =
      let xs = x.1 in let xl = x.2 in let ys = y.1 in let yl = y.2 in
      elim (cases_eq m n) [
        | inl same ↦ absurd (other (ap Slot same))
        | inr differ ↦ elim (cases_lt m n) [
          | inl less ↦ (let step = ends_by h m n less x.0 in apart a b p (omega (arith, step, xs, xl, ys)) here there)
          | inr more ↦ (let step = ends_by h n m (omega (arith, more, differ)) y.0 in apart b a p (omega (arith, step, ys, yl, xs)) there here)
        ]
      ]

  bounds_apart : (m n : AreaName) (a b : Area) → Bounds m a → Bounds n b → m ≢ n → (p : ℕ) → LiesIn p a → LiesIn p b → ⊥
  unfolding Bounds
  bounds_apart Head1 Head1 a b x y other p here there = other refl
  bounds_apart Head2 Head2 a b x y other p here there = other refl
  bounds_apart Head1 Head2 a b x y other p here there = let s = x.0 in let l = x.1 in let t = y.0 in apart a b p (omega (arith, s, l, t)) here there
  bounds_apart Head2 Head1 a b x y other p here there = let s = y.0 in let l = y.1 in let t = x.0 in apart b a p (omega (arith, s, l, t)) there here
  bounds_apart Head1 (Slot n) a b x y other p here there = let s = x.0 in let l = x.1 in let t = y.1 in let low = from_region h n in apart a b p (omega (arith, s, l, t, low)) here there
  bounds_apart Head2 (Slot n) a b x y other p here there = let s = x.0 in let l = x.1 in let t = y.1 in let low = from_region h n in apart a b p (omega (arith, s, l, t, low)) here there
  bounds_apart (Slot n) Head1 a b x y other p here there = let s = y.0 in let l = y.1 in let t = x.1 in let low = from_region h n in apart b a p (omega (arith, s, l, t, low)) there here
  bounds_apart (Slot n) Head2 a b x y other p here there = let s = y.0 in let l = y.1 in let t = x.1 in let low = from_region h n in apart b a p (omega (arith, s, l, t, low)) there here
  bounds_apart (Slot m) (Slot n) a b x y other p here there = slots_apart m n a b x y other p here there
  bounds_apart (Segment m) n a b x y other p here there = absurd x
  bounds_apart Head1 (Segment n) a b x y other p here there = absurd y
  bounds_apart Head2 (Segment n) a b x y other p here there = absurd y
  bounds_apart (Slot m) (Segment n) a b x y other p here there = absurd y

module _ (h : List ℕ) (has : HasRoom h) (j : Value) (x : SaysSource (header_members h) j) where
  -- no area of a keyslot that isn't there
  gone : (n : ℕ) (a : Area) → is_enabled h n ≡ false → slot_number j n (codes "offset") ≡ Some a.start → ⊥
  gone n a off start =
      let none : object_at j Keyslots n ≡ None = x.no_keyslot n (inr (slot_absent h n off)) in
      no_some a.start (sym (ap (λ o. decimal_in (option_and_then (get (codes "offset")) (option_and_then (get (codes "area")) o))) none) ∙ start)

  made : (n : ℕ) (a : Area) → is_enabled h n ≡ true → slot_number j n (codes "offset") ≡ Some a.start → slot_number j n (codes "size") ≡ Some a.len → Bounds h has (Slot n) a
  unfolding Bounds
  made n a on start len =
      let says : SaysMembers (new_slot h n) (slot_value (new_slot h n)) = x.slot_says n (slot_members (entry h n)) (low_of h n on) (slot_there h n on) in
      let there : object_at j Keyslots n ≡ Some (slot_value (new_slot h n)) = keyslot_there h j x n on in
      let first = ap (λ o. decimal_in (option_and_then (get (codes "offset")) (option_and_then (get (codes "area")) o))) there in
      let last = ap (λ o. decimal_in (option_and_then (get (codes "size")) (option_and_then (get (codes "area")) o))) there in
      (on, some_same a.start (new_start h n) (sym start ∙ first ∙ says.offset), some_same a.len (new_size h n) (sym len ∙ last ∙ says.size))

  bounds : (total size : ℕ) → size ≡ 16384 → (n : AreaName) (a : Area) → Luks2Area j size Elsewhere total n a → Bounds h has n a
  unfolding Bounds
  bounds total size is Head1 a at = (at.0, at.1 ∙ is)
  bounds total size is Head2 a at = (at.0 ∙ is, at.1 ∙ is)
  bounds total size is (Slot n) a at = elim (cases_Bool (is_enabled h n)) [
    | inl on ↦ made n a on at.1 at.2
    | inr off ↦ absurd (gone n a off at.1)
  ]
  bounds total size is (Segment n) a at = absurd (let here : Elsewhere ≡ Here = at.1 in cc)

  pub fit : (total size : ℕ) → size ≡ 16384 → 16777216 ≤ total → Fit (Luks2Area j size Elsewhere total) total
  fit total size is large = record {
    inside = λ n a at. bounds_inside h has total large n a (bounds total size is n a at);
    disjoint = λ m n a b x y other. bounds_apart h has m n a b (bounds total size is m a x) (bounds total size is n b y) other;
  }
