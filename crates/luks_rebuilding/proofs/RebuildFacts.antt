-- From what was found, judged and written to the header that was made.
use Rattle.std.proofs.Common.{ℕ, ◌+◌, ◌≤◌, List, length, Option, refl, ap, subst, inl, inr}
use Rattle.serde_json.specs.Data.{Data as Value}
use Rattle.luks_area.specs.Area.{name_number}
use Rattle.luks_area.specs.Ranges.{SameBut}
use Rattle.luks_area.proofs.RangeFacts.{same_but-wider}
use Rattle.luks_area.specs.declared.area.Area.{Area}
use Rattle.luks_area.specs.declared.area.AreaName.TheVariants as name
use Rattle.luks_rules.proofs.AreaFaults.{one_value}
use Rattle.luks_meta.specs.Content.{content}
use Rattle.luks_rebuilding.specs.Found.{source_of, AreSlotsApart, HasSlots, HasSlotsInside, IsFoundIn, IsOfWhole, IsReady, IsWhole, IsWholeWritten, WritesWholeLast}
use Rattle.luks_rebuilding.specs.Candidates.{OfTaken, Source}
use Rattle.luks_rebuilding.specs.KeyAreas.{HasKeyArea, HasKeyAreas, IsSlotArea}
use Rattle.luks_rebuilding.specs.Making.{MakesFirstLast}
use Rattle.luks_rebuilding.specs.Rebuilt.{FirstIsLast, IsMade, IsOfHeader, IsOfRebuilt, IsUuidOf, WritesFirstLast}
use Rattle.luks_rebuilding.specs.declared.candidate.Candidate.{Candidate}
use Rattle.luks_rebuilding.specs.declared.place.Which.{Which}

-- ---- what was judged

module _ (c : Candidate) (source_total total : ℕ) (given : Option (List ℕ)) (random : List ℕ) (ready : IsReady c source_total total given random) where
  pub slots_apart : AreSlotsApart (content c.meta)
  slots_apart m n a b p q other = ready.fit.disjoint (name.Slot m) (name.Slot n) a b p q (λ e. other (ap name_number e))

  pub slots_there : HasSlotsInside (content c.meta) source_total
  slots_there n a is = ready.fit.inside (name.Slot n) a is

  pub both_inside : c.place.size + c.place.size ≤ source_total
  both_inside = ready.fit.inside name.Head2 (record { start = c.place.size; len = c.place.size }) (refl, refl)

-- ---- what was written

module _ (v : List ℕ) (c : Candidate) (whole : IsWhole (length v) c) where
  slot_here : (n : ℕ) (a : Area) → HasKeyArea (source_of c) n a → IsSlotArea (content c.meta) n a
  slot_here n a x = subst (λ (j : Value). IsSlotArea j n a) (one_value c.json.items x.value (content c.meta) x.holds whole.meta.json) x.area

  key_areas : (w : List ℕ) → HasSlots c v w → HasKeyAreas v (source_of c) w
  key_areas w areas n a x = areas n a (slot_here n a x)

  pub of_header : {u w : List ℕ} → SameBut (IsOfWhole c) u w → SameBut (IsOfHeader (source_of c)) u w
  of_header same = same_but-wider (λ p is. wider p is) same
    where
      wider : (p : ℕ) → IsOfWhole c p → IsOfHeader (source_of c) p
      wider p (inl at) = inl at
      wider p (inr is) = inr (record {
        number = is.number;
        area = is.of_slot.area;
        has = record { value = content c.meta; holds = whole.meta.json; area = is.of_slot.is };
        at = is.of_slot.at;
      })

  module _ (given : Option (List ℕ)) (random uuid old w : List ℕ) (own : IsUuidOf v c.place.size c.place.at given random uuid) where
    pub is_made : IsWholeWritten c v uuid random w → SameBut (IsOfWhole c) old w → IsMade v given random old w (source_of c)
    is_made x same = record {
      uuid = uuid;
      own_uuid = own;
      first = x.first;
      second = x.others.second;
      areas = key_areas w x.others.areas;
      rest = of_header same;
    }

    first_last : WritesWholeLast c v uuid random old w → FirstIsLast v given random old w (source_of c)
    first_last (inl same) = inl same
    first_last (inr (inl (waits, inl clearing))) = inr (inl (waits, inl clearing))
    first_last (inr (inl (waits, inr (inl cleared)))) = inr (inl (waits, inr (inl cleared)))
    first_last (inr (inl (waits, inr (inr there)))) = inr (inl (waits, inr (inr (key_areas w there))))
    first_last (inr (inr x)) = inr (inr (record {
      uuid = uuid;
      own_uuid = own;
      second = x.second;
      areas = key_areas w x.areas;
    }))

    pub order_kept : WritesWholeLast c v uuid random old w → MakesFirstLast v given random old w (source_of c)
    order_kept x = inr (first_last x)

-- ---- of the first candidate of a volume

module _ (v : List ℕ) (which : Which) (c : Candidate) (found : IsFoundIn v which c) where
  -- what is said of it is said of what is taken
  pub taken_so : (says : Source → Type 0) → says (source_of c) → OfTaken v which says
  taken_so says x = record { source = source_of c; taken = found.taken; holds = x }

  pub of_rebuilt : {u w : List ℕ} → SameBut (IsOfHeader (source_of c)) u w → SameBut (IsOfRebuilt v which) u w
  of_rebuilt same = same_but-wider (λ p is. taken_so (λ source. IsOfHeader source p) is) same

  pub first_written_last : (given : Option (List ℕ)) (random old w : List ℕ) → MakesFirstLast v given random old w (source_of c) → WritesFirstLast v which given random old w
  first_written_last given random old w (inl same) = inl same
  first_written_last given random old w (inr x) = inr (taken_so (FirstIsLast v given random old w) x)
