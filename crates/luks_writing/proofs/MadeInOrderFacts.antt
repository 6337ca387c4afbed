-- Facts on the order of writing, for the proofs of every crate that depends on this one.
use Rattle.std.proofs.Common.{◌≡◌, ℕ, ◌+◌, ◌*◌, ◌-◌, ◌≤◌, List, inl, inr, arith, sym, ap, ◌∙◌}
use Rattle.luks_area.specs.Ranges.{part, IsAt, SameBut}
use Rattle.luks_area.proofs.RangeFacts.{part-part, part-same_but, same_but-then, same_but-wider}
use Rattle.luks_writing.specs.Cleared.{AreCleared, ClearsInTurn, IsOfFirstSectors}
use Rattle.luks_writing.specs.MadeInOrder.{ClearsFirst, FirstWaits, WritesInTurn}

-- what lies in a range that stays is as it was
inside_stays : (old new : List ℕ) (at n len : ℕ) → at + n ≤ len → part new 0 len ≡ part old 0 len → part new at n ≡ part old at n
inside_stays old new at n len inside same =
    sym (range_of new) ∙ ap (λ b. part b at n) same ∙ range_of old
  where
    range_of : (v : List ℕ) → part (part v 0 len) at n ≡ part v at n
    range_of v = let start : 0 + at ≡ at = omega arith in part-part v 0 len at n inside ∙ ap (λ k. part v k n) start

-- clearing leaves what follows the first sector in the first copy's place
behind_first : {old mid : List ℕ} (size : ℕ) → 512 ≤ size → SameBut (IsOfFirstSectors size) old mid → part mid 512 (size - 512) ≡ part old 512 (size - 512)
behind_first size large before = part-same_but 512 (size - 512) before (λ p here other. elim other [
  | inl at ↦ (let low = here.0 in let high = at.1 in absurd (omega (arith, low, high)))
  | inr at ↦ (let high = here.1 in let low = at.0 in absurd (omega (arith, low, high, large)))
])

-- clearing that failed keeps the order
pub clearing_fails : {key_areas but_first : Type 0} {old new : List ℕ} (size : ℕ) → 512 ≤ size → SameBut (IsOfFirstSectors size) old new
    → ClearsInTurn old new → ClearsFirst size key_areas but_first old new
clearing_fails size large rest turn = elim turn [
  | inl first ↦ inl first
  | inr cleared ↦ inr (inl (record { cleared = cleared; behind = behind_first size large rest }, inl rest))
]

module _ {old mid : List ℕ} (size : ℕ) (large : 512 ≤ size) (cleared : AreCleared size mid) (before : SameBut (IsOfFirstSectors size) old mid) where
  -- the place waits as long as it stays
  first_waits : {new : List ℕ} → part new 0 size ≡ part mid 0 size → FirstWaits size old new
  first_waits {new} same = record {
    cleared = inside_stays mid new 0 512 size (omega (arith, large)) same ∙ cleared.first_copy;
    behind = inside_stays mid new 512 (size - 512) size (omega (arith, large)) same ∙ behind_first size large before;
  }

  -- the steps that follow the clearing keep its order
  pub cleared_then : {key_areas but_first : Type 0} {new : List ℕ} → WritesInTurn size key_areas but_first mid new → ClearsFirst size key_areas but_first old new
  cleared_then {key_areas} {but_first} {new} turn = elim turn [
    | inl same ↦ inr (inl (
      first_waits (inside_stays mid new 0 size (2 * size) (omega arith) same),
      inr (inl (inside_stays mid new size 512 (2 * size) (omega (arith, large)) same ∙ cleared.second_copy)),
    ))
    | inr later ↦ elim later [
      | inl areas ↦ inr (inl (first_waits areas.0, inr (inr areas.1)))
      | inr stands ↦ inr (inr stands)
    ]
  ]

-- the first sectors lie in the places of both copies
pub sectors_inside : (size : ℕ) → 512 ≤ size → (p : ℕ) → IsOfFirstSectors size p → IsAt 0 (2 * size) p
sectors_inside size large p is = elim is [
  | inl at ↦ (let low = at.0 in omega (arith, low), let high = at.1 in omega (arith, high, large))
  | inr at ↦ (let low = at.0 in omega (arith, low), let high = at.1 in omega (arith, high, large))
]

-- what is cleared and then written changes no more than what is written, where that has both places
pub clearing_widens : {T : ℕ → Type 0} {old mid new : List ℕ} (size : ℕ) → ((p : ℕ) → IsOfFirstSectors size p → T p)
    → SameBut (IsOfFirstSectors size) old mid → SameBut T mid new → SameBut T old new
clearing_widens size inside cleared after = same_but-then (same_but-wider inside cleared) after
