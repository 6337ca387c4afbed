-- The places of the areas of a converted volume's keyslots.
use Rattle.std.proofs.Common.{◌≡◌, ℕ, zero, suc, ◌+◌, ◌-◌, ◌*◌, ◌/◌, ◌%◌, ◌<◌, ◌≤◌, Option, None, Some, nat_lt, refl, subst, ap, inl, inr, arith}
use Rattle.std.proofs.lemmas.Bool.{cases_Bool, ltb-false}
use Rattle.luks_area.specs.Sectors.{rounded_to_sectors}
use Rattle.luks_making.specs.Converted.{SourceMembers, SourceSlotMembers, area_size, area_start, region_size, taken_size}

-- the first one's place
pub start_first : (v : SourceMembers) → area_start v 0 ≡ 32768
unfolding area_start
start_first v = refl

-- behind the area of an enabled keyslot, and where there is none
pub start_after : (v : SourceMembers) (n : ℕ) (s : SourceSlotMembers) → v.slot n ≡ Some s → area_start v (suc n) ≡ area_start v n + area_size v s
unfolding area_start
start_after v n s is = ap (λ o. area_start v n + taken_size v o) is

pub start_same : (v : SourceMembers) (n : ℕ) → v.slot n ≡ None → area_start v (suc n) ≡ area_start v n
unfolding area_start
start_same v n is = let next : area_start v n + taken_size v (v.slot n) ≡ area_start v n + 0 = ap (λ o. area_start v n + taken_size v o) is in omega (arith, next)

-- the places rise
rises : (v : SourceMembers) (n k : ℕ) → area_start v n ≤ area_start v (n + k)
unfolding area_start
rises v n zero = subst (λ k. area_start v n ≤ area_start v k) (let same : n ≡ n + 0 = omega arith in same) (omega arith)
rises v n (suc k) =
    let before = rises v n k in
    let next : area_start v n ≤ area_start v (suc (n + k)) = omega (arith, before) in
    subst (λ k. area_start v n ≤ area_start v k) (let same : suc (n + k) ≡ n + suc k = omega arith in same) next

-- they are behind the two copies
pub start_from : (v : SourceMembers) (n : ℕ) → 32768 ≤ area_start v n
unfolding area_start
start_from v zero = omega arith
start_from v (suc n) = let before = start_from v n in omega (arith, before)

-- each ends where the last one ends, or before
pub end_by_last : (v : SourceMembers) (n : ℕ) (s : SourceSlotMembers) → n < 8 → v.slot n ≡ Some s → area_start v n + area_size v s ≤ area_start v 8
end_by_last v n s low is =
    let next = start_after v n s is in
    let high : area_start v (suc n) ≤ area_start v (suc n + (8 - suc n)) = rises v (suc n) (8 - suc n) in
    let eight : suc n + (8 - suc n) ≡ 8 = omega (arith, low) in
    let last : area_start v (suc n) ≤ area_start v 8 = subst (λ k. area_start v (suc n) ≤ area_start v k) eight high in
    omega (arith, next, last)

pub end_within : (v : SourceMembers) (n : ℕ) (s : SourceSlotMembers) → n < 8 → v.slot n ≡ Some s → area_start v 8 ≤ 16777216
    → area_start v n + area_size v s ≤ 16777216
end_within v n s low is room = let last = end_by_last v n s low is in omega (arith, last, room)

-- ---- the region

-- the areas are whole blocks
taken_whole : (v : SourceMembers) (o : Option SourceSlotMembers) → taken_size v o % 4096 ≡ 0
taken_whole v None = refl
taken_whole v (Some s) = omega arith

whole_blocks : (v : SourceMembers) (n : ℕ) → area_start v n % 4096 ≡ 0
unfolding area_start
whole_blocks v zero = refl
whole_blocks v (suc n) =
    let before = whole_blocks v n in
    let more = taken_whole v (v.slot n) in
    omega (arith, before, more)

-- so the region holds them
pub region_holds : (v : SourceMembers) → area_start v 8 ≤ 16777216 → area_start v 8 ≤ 32768 + region_size v
region_holds v room =
    let blocks = whole_blocks v 8 in
    let from = start_from v 8 in
    elim (cases_Bool (nat_lt v.payload_offset (area_start v 8))) [
      | inl before ↦ rw before (omega (arith, blocks, from, room))
      | inr behind ↦ (let there = ltb-false v.payload_offset (area_start v 8) behind in rw behind (omega (arith, blocks, from, room, there)))
    ]

-- and it ends at 16 MiB at the latest
pub region_short : (v : SourceMembers) → region_size v ≤ 16744448
region_short v = elim (cases_Bool (nat_lt v.payload_offset (area_start v 8))) [
  | inl before ↦ rw before (omega arith)
  | inr behind ↦ rw behind (omega arith)
]

-- an area holds the sectors of the split key
pub holds_sectors : (bytes : ℕ) → rounded_to_sectors bytes ≤ (bytes + 4095) / 4096 * 4096
holds_sectors bytes = omega arith
