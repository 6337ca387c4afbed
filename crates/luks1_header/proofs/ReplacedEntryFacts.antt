-- A LUKS1 header of which one entry was replaced.
use Rattle.std.proofs.Common.{◌≡◌, ◌≢◌, ℕ, ◌+◌, ◌*◌, ◌<◌, ◌≤◌, List, length, slice_index_or, slice_set, sym, ◌∙◌, arith, lit≤, subst, inl, inr, length-set, get_or-set_other, get_or-set_same}
use Rattle.std.proofs.lemmas.Bool.{cases_eq, cases_order}
use Rattle.luks_area.specs.Ranges.{part, IsAt, SameBut}
use Rattle.luks_area.proofs.RangeFacts.{part-same_but_at, same_but-wider}
use Rattle.luks1_header.specs.Header1.{entry, luks1_size, IsEntry, IsLuks1}
use Rattle.luks1_header.specs.declared.luks1.Luks1.{Luks1}
use Rattle.luks1_header.specs.declared.luks1.Luks1Slot.{Luks1Slot}
use Rattle.luks1_header.proofs.Luks1HeaderFacts.{common_moves}
use Rattle.luks1_header.proofs.Luks1WritingFacts.{first_same}
use Rattle.luks1_header.proofs.PutFacts.{IsFrom}

-- the bytes before the key slots
pub before_same : (v w : List ℕ) (n : ℕ) → SameBut (IsAt (208 + 48 * n) 48) v w → part w 0 208 ≡ part v 0 208
before_same v w n same = part-same_but_at (208 + 48 * n) 48 0 208 same (inl (omega arith))

-- the other entries
pub others_same : (v w : List ℕ) (n k : ℕ) → k ≢ n → SameBut (IsAt (208 + 48 * n) 48) v w → entry w k ≡ entry v k
others_same v w n k other same = part-same_but_at (208 + 48 * n) 48 (208 + 48 * k) 48 same (elim (cases_order k n) [
  | inl equal ↦ absurd (other equal)
  | inr differ ↦ elim differ [ inl under ↦ inl (omega (arith, under)) | inr over ↦ inr (omega (arith, over)) ]
])

-- the header
pub header_replaced : (v w : List ℕ) (d : Luks1) (n : ℕ) (s : Luks1Slot) → n < 8 → SameBut (IsAt (208 + 48 * n) 48) v w
    → IsLuks1 v d → IsEntry (entry w n) s → IsLuks1 w (record d { slots = slice_set d.slots n s })
header_replaced v w d n s lt same good fit =
    let from : SameBut (IsFrom 208) v w = same_but-wider (λ p here. (let low = here.0 in omega (arith, low))) same in
    let long : length w ≡ length v = same.length_same in
    let room : luks1_size ≤ length v = good.long in
    let eight : length d.slots ≡ 8 = good.slots.eight in
    record {
      long = omega (arith, long, room);
      common = common_moves 208 v w d.common (lit≤ tt) (first_same 208 v w from) good.common;
      slots = record {
        eight = length-set d.slots n s ∙ eight;
        each = λ k default below. elim (cases_eq k n) [
          | inl here ↦
              let E : Luks1Slot → Type 0 = λ x. IsEntry (entry w n) x in
              let is : slice_index_or (slice_set d.slots n s) n default ≡ s = get_or-set_same d.slots n s default (omega (arith, lt, eight)) in
              rw here (subst E (sym is) fit)
          | inr other ↦
              let E : Luks1Slot → Type 0 = λ x. IsEntry (entry w k) x in
              let B : List ℕ → Type 0 = λ e. IsEntry e (slice_index_or d.slots k default) in
              let is : slice_index_or (slice_set d.slots n s) k default ≡ slice_index_or d.slots k default = get_or-set_other d.slots n k s default other in
              subst E (sym is) (subst B (sym (others_same v w n k other same)) (good.slots.each k default below))
        ];
      };
    }
