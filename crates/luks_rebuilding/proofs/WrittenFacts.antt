-- What the steps of rebuilding leave: the key areas and both copies of the header.
use Rattle.std.proofs.Common.{◌≡◌, ℕ, ◌+◌, ◌*◌, ◌≤◌, List, length, inl, inr, arith, ◌∙◌}
use Rattle.luks_area.specs.Ranges.{part, IsAt, SameBut}
use Rattle.luks_area.proofs.RangeFacts.{part-same_but, part-same_but_at, same_but-then, same_but-wider}
use Rattle.luks_area.specs.declared.area.Area.{Area}
use Rattle.luks2_header.proofs.CopyFacts.{listed_at_least}
use Rattle.luks_meta.specs.Content.{content}
use Rattle.luks_rebuilding.proofs.CopyFacts.{copy_stays}
use Rattle.luks_rebuilding.proofs.RegionFacts.{behind, ends}
use Rattle.luks_rebuilding.specs.Found.{source_of, HasRegionInside, HasSlots, HasSlotsInside, IsAllButFirst, IsOfSlots, IsOfWhole, IsWhole, WritesWholeInTurn}
use Rattle.luks_rebuilding.specs.KeyAreas.{IsSlotArea}
use Rattle.luks_rebuilding.specs.Rebuilt.{second_copy_salt, HasRebuiltCopy}
use Rattle.luks_rebuilding.specs.declared.candidate.Candidate.{Candidate}

module _ (c : Candidate) where
  -- ---- which bytes may have changed after each step

  pub areas_rest : {u v : List ℕ} → SameBut (IsOfSlots (content c.meta)) u v → SameBut (IsOfWhole c) u v
  areas_rest same = same_but-wider (λ p is. inr is) same

  second_inside : (p : ℕ) → IsAt c.place.size c.place.size p → IsAt 0 (2 * c.place.size) p
  second_inside p at = (let low = at.0 in omega (arith, low), let high = at.1 in omega (arith, high))

  first_inside : (p : ℕ) → IsAt 0 c.place.size p → IsAt 0 (2 * c.place.size) p
  first_inside p at = (let low = at.0 in omega (arith, low), let high = at.1 in omega (arith, high))

  pub second_rest : {u v w : List ℕ} → SameBut (IsOfSlots (content c.meta)) u v → SameBut (IsAt c.place.size c.place.size) v w → SameBut (IsOfWhole c) u w
  second_rest same second = same_but-then (areas_rest same) (same_but-wider (λ p at. inl (second_inside p at)) second)

  pub all_rest : {u v w x : List ℕ} → SameBut (IsOfSlots (content c.meta)) u v → SameBut (IsAt c.place.size c.place.size) v w → SameBut (IsAt 0 c.place.size) w x → SameBut (IsOfWhole c) u x
  all_rest same second first = same_but-then (second_rest same second) (same_but-wider (λ p at. inl (first_inside p at)) first)

  module _ (source_total total : ℕ) (whole : IsWhole source_total c) (region : HasRegionInside (content c.meta) c.place.size total) where
    large : 16384 ≤ c.place.size
    large = listed_at_least c.place.size whole.place.listed

    pub json_long : 4096 + length c.json.items ≡ c.place.size
    json_long = let long = whole.long in let least = large in omega (arith, long, least)

    pub heads_inside : 2 * c.place.size ≤ total
    heads_inside = let inside = region.inside in omega (arith, inside)

    pub slot_behind : (n : ℕ) (a : Area) → IsSlotArea (content c.meta) n a → 2 * c.place.size ≤ a.start
    slot_behind n a is = behind (content c.meta) c.place.size large (length c.json.items) whole.long whole.meta.content region.bytes region.says n a is

    pub slots_inside : HasSlotsInside (content c.meta) total
    slots_inside n a is =
        let end_ = ends (content c.meta) c.place.size large (length c.json.items) whole.long whole.meta.content region.bytes region.says n a is in
        let inside = region.inside in
        omega (arith, end_, inside)

    -- a cleared sector is no longer than its place
    pub sector_fits : 512 ≤ c.place.size
    sector_fits = let least = large in omega (arith, least)

    -- ---- the places of both copies

    -- key areas that are written touch neither
    areas_behind : {u v : List ℕ} (len : ℕ) → len ≤ 2 * c.place.size → SameBut (IsOfSlots (content c.meta)) u v → part v 0 len ≡ part u 0 len
    areas_behind len inside same = part-same_but 0 len same (λ p here other.
        let low = slot_behind other.number other.of_slot.area other.of_slot.is in
        let at = other.of_slot.at.0 in
        let high = here.1 in
        absurd (omega (arith, low, at, high, inside)))

    -- the second copy touches no key area
    second_apart : {v w : List ℕ} (s : List ℕ) → HasSlots c s v → SameBut (IsAt c.place.size c.place.size) v w → HasSlots c s w
    second_apart s areas second n a is =
        let low = slot_behind n a is in
        part-same_but_at c.place.size c.place.size a.start a.len second (inr (omega (arith, low))) ∙ areas n a is

    -- while key areas are written both places wait
    pub both_wait : {u v : List ℕ} → SameBut (IsOfSlots (content c.meta)) u v → (s uuid random : List ℕ) → WritesWholeInTurn c s uuid random u v
    both_wait same s uuid random = inl (areas_behind (2 * c.place.size) (omega arith) same)

    -- while the second copy is written the key areas stand, and the first copy's place waits
    pub first_waits : {u v w : List ℕ} → SameBut (IsOfSlots (content c.meta)) u v → SameBut (IsAt c.place.size c.place.size) v w
        → (s uuid random : List ℕ) → HasSlots c s v → WritesWholeInTurn c s uuid random u w
    first_waits same second s uuid random areas =
        let waits = part-same_but_at c.place.size c.place.size 0 c.place.size second (inl (omega arith)) ∙ areas_behind c.place.size (omega arith) same in
        inr (inl (waits, second_apart s areas second))

    -- ---- the volume that they leave

    module _ (s uuid random u v w x : List ℕ) (areas : HasSlots c s v)
        (second_same : SameBut (IsAt c.place.size c.place.size) v w) (first_same : SameBut (IsAt 0 c.place.size) w x)
        (second : HasRebuiltCopy w uuid (second_copy_salt random) (source_of c) c.place.size) where
      second_kept : HasRebuiltCopy x uuid (second_copy_salt random) (source_of c) c.place.size
      second_kept = copy_stays w x uuid (second_copy_salt random) (source_of c) c.place.size first_same.length_same
          (part-same_but_at 0 c.place.size c.place.size 4096 first_same (inr (omega arith)))
          (part-same_but_at 0 c.place.size (c.place.size + 4096) (length c.json.items) first_same (inr (omega arith))) second

      areas_kept : HasSlots c s x
      areas_kept n a is =
          let low = slot_behind n a is in
          part-same_but_at 0 c.place.size a.start a.len first_same (inr (omega (arith, low)))
          ∙ second_apart s areas second_same n a is

      pub all_but_first : IsAllButFirst c s uuid random x
      all_but_first = record { second = second_kept; areas = areas_kept }
