-- The area that a name has in metadata, or that it has none; and whether no area meets another one.
use Rattle.std.proofs.Common.{◌≡◌, ◌⊎◌, ℕ, ◌-◌, ◌<◌, codes, Option, Some, None, refl, subst, inl, inr}
use Rattle.serde_json.specs.Data.{Data as Value}
use Rattle.luks_area.specs.declared.area.Area.{Area}
use Rattle.luks_area.specs.declared.area.AreaName.{AreaName}
use Rattle.luks_area.specs.declared.area.AreaName.TheVariants.{Head1, Head2, Segment, Slot}
use Rattle.luks_area.specs.Area.{AreDisjoint}
use Rattle.luks_rules.specs.Reading.{dynamic, Field, whole}
use Rattle.luks_reading.specs.declared.report.Data.{Data}
use Rattle.luks_reading.specs.declared.report.Data.TheVariants.{Elsewhere, Here}
use Rattle.luks_reading.specs.Layout2.{HasExtent, Luks2Area, segment_extent, segment_offset, slot_number}
use Rattle.luks_laws.proofs.DecidedFacts.{alike_decided, both_decided, Decided, less_decided}
use Rattle.luks_laws.proofs.SearchFacts.{all_below_decided}
use Rattle.luks_laws.proofs.GapDecisions.{disjoint_decided, IsBeside}

-- ---- numbers

-- the number that is there, or none is
number_found : (o : Option ℕ) → ((x : ℕ) × (o ≡ Some x)) ⊎ ((x : ℕ) → o ≡ Some x → ⊥)
number_found None = inr (λ x e. cc)
number_found (Some x) = inl (x, refl)

-- the length that an extent says, or it says none of any place
length_found : (total start : ℕ) (o : Option Field) → ((len : ℕ) × HasExtent total start len o) ⊎ ((other len : ℕ) → HasExtent total other len o → ⊥)
length_found total start (Some dynamic) = inl (total - start, refl)
length_found total start (Some (whole size)) = inl (size, refl)
length_found total start o = inr (λ other len x. x)

-- the payload is in the volume, or elsewhere
here_decided : (payload : Data) → Decided (payload ≡ Here)
here_decided Here = inl refl
here_decided Elsewhere = inr (λ e. cc)

-- ---- areas

module _ (j : Value) (h : ℕ) (payload : Data) (total : ℕ) where
  -- the name has an area, or it has none
  abbrev Found : AreaName → Type 0
  Found n = ((a : Area) × Luks2Area j h payload total n a) ⊎ ((a : Area) → Luks2Area j h payload total n a → ⊥)

  -- the area of a keyslot
  slot_found : (n : ℕ) → n < 32 → Found (Slot n)
  slot_found n low = elim (number_found (slot_number j n (codes "offset"))) [
    | inl start ↦ elim (number_found (slot_number j n (codes "size"))) [
      | inl size ↦ inl (record { start = start.0; len = size.0 }, (low, start.1, size.1))
      | inr none ↦ inr (λ a x. none a.len x.2)
    ]
    | inr none ↦ inr (λ a x. none a.start x.1)
  ]

  -- the area of a segment
  segment_found : (n : ℕ) → (n < 32) × (payload ≡ Here) → Found (Segment n)
  segment_found n at = elim (number_found (segment_offset j n)) [
    | inl start ↦ elim (length_found total start.0 (segment_extent j n)) [
      | inl size ↦ inl (record { start = start.0; len = size.0 }, (at.0, at.1, start.1, size.1))
      | inr none ↦ inr (λ a x. none a.start a.len x.3)
    ]
    | inr none ↦ inr (λ a x. none a.start x.2)
  ]

  -- the area of any name
  area_found : (n : AreaName) → Found n
  area_found Head1 = inl (record { start = 0; len = h }, (refl, refl))
  area_found Head2 = inl (record { start = h; len = h }, (refl, refl))
  area_found (Slot n) = elim (less_decided n 32) [ inl low ↦ slot_found n low | inr high ↦ inr (λ a x. high x.0) ]
  area_found (Segment n) = elim (both_decided _ _ (less_decided n 32) (here_decided payload)) [
    | inl at ↦ segment_found n at
    | inr other ↦ inr (λ a x. other (x.0, x.1))
  ]

  -- ---- another area `x`, where a name has one area at most

  module _ (one : (n : AreaName) (a b : Area) → Luks2Area j h payload total n a → Luks2Area j h payload total n b → a ≡ b) (x : Area) where
    -- the name's area doesn't meet the area `x`
    abbrev IsClear : AreaName → Type 0
    IsClear n = (a : Area) → Luks2Area j h payload total n a → AreDisjoint a x

    -- one name's area doesn't meet it, or it does
    clear_decided : (n : AreaName) → Decided (IsClear n)
    clear_decided n = elim (area_found n) [
      | inl found ↦ alike_decided (AreDisjoint found.0 x) (IsClear n) (λ apart a is. subst (λ b. AreDisjoint b x) (one n found.0 a found.1 is) apart)
          (λ clear. clear found.0 found.1) (disjoint_decided found.0 x)
      | inr none ↦ inl (λ a is. absurd (none a is))
    ]

    -- the areas of the headers, keyslots and segments don't meet it
    abbrev IsClearOfAll : Type 0
    IsClearOfAll = (IsClear Head1 × IsClear Head2) × (((k : ℕ) → k < 32 → IsClear (Slot k)) × ((k : ℕ) → k < 32 → IsClear (Segment k)))

    -- there is no other area
    beside_all : IsClearOfAll → IsBeside (Luks2Area j h payload total) x
    beside_all clear Head1 a is = clear.0.0 a is
    beside_all clear Head2 a is = clear.0.1 a is
    beside_all clear (Slot n) a is = clear.1.0 n is.0 a is
    beside_all clear (Segment n) a is = clear.1.1 n is.0 a is

    -- no area meets it, or one does
    pub beside_decided : Decided (IsBeside (Luks2Area j h payload total) x)
    beside_decided = alike_decided IsClearOfAll (IsBeside (Luks2Area j h payload total) x) beside_all
        (λ beside. ((beside Head1, beside Head2), (λ k _. beside (Slot k), λ k _. beside (Segment k))))
        (both_decided _ _ (both_decided _ _ (clear_decided Head1) (clear_decided Head2))
        (both_decided _ _ (all_below_decided (λ k. IsClear (Slot k)) (λ k. clear_decided (Slot k)) 32)
        (all_below_decided (λ k. IsClear (Segment k)) (λ k. clear_decided (Segment k)) 32)))
