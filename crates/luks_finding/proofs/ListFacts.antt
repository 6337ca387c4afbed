-- The list of the starts that were told.
use Rattle.std.proofs.Common.{◌≡◌, ℕ, zero, suc, ◌+◌, ◌-◌, ◌*◌, ◌<◌, ◌≤◌, ◌⊎◌, List, [], ◌++◌, inl, inr, length, get_or, sym, ap, ◌∙◌, subst, arith, length-append}
use Rattle.std.proofs.lemmas.Bool.{cases_lt}
use Rattle.std.proofs.lemmas.List.{get_or_append_left}
use Rattle.std.proofs.Math.Seq.{get_or-append_right}
use Rattle.luks_finding.specs.Finding.{AreStartsBetween, HasNoSignFrom}
use Rattle.luks_finding.specs.Starts.{AreStarts, HasSignBefore, IsAmong, IsFirstSign, IsSign}
use Rattle.luks_finding.specs.Telling.{AreToldAt}
use Rattle.luks_finding.proofs.SignFacts.{sign-sector}

-- where no sign stands, nothing is told
pub none-between : (v : List ℕ) (from end : ℕ) → ((k s : ℕ) → from ≤ k → k < end → IsSign v s (512 * k) → ⊥) → AreStartsBetween v from end []
none-between v from end none = record {
  sound = λ i lt. absurd (omega (arith, lt));
  complete = λ k s low high sign. absurd (none k s low high sign);
  in_order = λ i j p q lt within first second. absurd (omega (arith, within));
}

-- before anything was looked at
pub none-yet : (v : List ℕ) → AreStartsBetween v 0 0 []
none-yet v = none-between v 0 0 (λ k s low high sign. omega (arith, high))

-- a volume's first sign is at one place
pub first-behind : (v : List ℕ) (s p q : ℕ) → IsFirstSign v s p → IsSign v s q → p ≤ q
first-behind v s p q first sign = elim (cases_lt q p) [
  | inl before ↦ absurd (first.first (record { place = q; before = before; sign = sign }))
  | inr behind ↦ behind
]

pub first-one : (v : List ℕ) (s p q : ℕ) → IsFirstSign v s p → IsFirstSign v s q → p ≡ q
first-one v s p q first second =
    let left : p ≤ q = first-behind v s p q first second.sign in
    let right : q ≤ p = first-behind v s q p second first.sign in
    omega (arith, left, right)

-- what the first sector with a sign tells
pub told-between : (v : List ℕ) (from k : ℕ) (list : List ℕ) → from ≤ k → ((n s : ℕ) → from ≤ n → n < k → IsSign v s (512 * n) → ⊥)
    → AreToldAt v (512 * k) list → AreStartsBetween v from (k + 1) list
told-between v from k list low none told = record {
  sound = λ i lt. record { place = 512 * k; from_on = omega (arith, low); below = omega arith; first = told.first i lt };
  complete = λ n s at high sign. elim (cases_lt n k) [
    | inl before ↦ absurd (none n s at before sign)
    | inr behind ↦
        let here : n ≡ k = omega (arith, high, behind) in
        let B : ℕ → Type 0 = λ m. HasSignBefore v s (512 * m) ⊎ IsAmong list s in
        subst B (sym here) (told.all s (subst (λ (m : ℕ). IsSign v s (512 * m)) here sign))
  ];
  in_order = λ i j p q lt within first second.
      let left : p ≡ 512 * k = first-one v (get_or list i 0) p (512 * k) first (told.first i (omega (arith, lt, within))) in
      let right : q ≡ 512 * k = first-one v (get_or list j 0) q (512 * k) second (told.first j within) in
      inr (left ∙ sym right, told.rising i j lt within);
}

-- what is among a list is among a longer one
pub among-left : (list more : List ℕ) (s : ℕ) → IsAmong list s → IsAmong (list ++ more) s
among-left list more s among =
    let inside : among.index < length list = among.within in
    let long : length (list ++ more) ≡ length list + length more = length-append list more in
    record { index = among.index; within = omega (arith, inside, long); is = get_or_append_left list more 0 among.index among.within ∙ among.is }

right-index : (list more : List ℕ) (i : ℕ) → get_or (list ++ more) (length list + i) 0 ≡ get_or more i 0
right-index list more i =
    let back : (length list + i) - length list ≡ i = omega arith in
    get_or-append_right list more (length list + i) 0 (omega arith) ∙ ap (λ k. get_or more k 0) back

pub among-right : (list more : List ℕ) (s : ℕ) → IsAmong more s → IsAmong (list ++ more) s
among-right list more s among =
    let inside : among.index < length more = among.within in
    let long : length (list ++ more) ≡ length list + length more = length-append list more in
    record { index = length list + among.index; within = omega (arith, inside, long); is = right-index list more among.index ∙ among.is }

-- those of one stretch of sectors, and then those of the next
pub starts-join : (v : List ℕ) (from mid end : ℕ) (list more : List ℕ) → from ≤ mid → mid ≤ end → AreStartsBetween v from mid list
    → AreStartsBetween v mid end more → AreStartsBetween v from end (list ++ more)
starts-join v from mid end list more low high left right =
    let n : ℕ = length list in
    let long : length (list ++ more) ≡ n + length more = length-append list more in
    record {
      sound = λ i lt. elim (cases_lt i n) [
        | inl before ↦
            let same : get_or (list ++ more) i 0 ≡ get_or list i 0 = get_or_append_left list more 0 i before in
            let is = left.sound i before in
            let below : is.place < 512 * mid = is.below in
            record { place = is.place; from_on = is.from_on; below = omega (arith, below, high); first = subst (λ (t : ℕ). IsFirstSign v t is.place) (sym same) is.first }
        | inr behind ↦
            let same : get_or (list ++ more) i 0 ≡ get_or more (i - n) 0 = get_or-append_right list more i 0 behind in
            let is = right.sound (i - n) (omega (arith, lt, long, behind)) in
            let on : 512 * mid ≤ is.place = is.from_on in
            record { place = is.place; from_on = omega (arith, on, low); below = is.below; first = subst (λ (t : ℕ). IsFirstSign v t is.place) (sym same) is.first }
      ];
      complete = λ k s at below sign. elim (cases_lt k mid) [
        | inl before ↦ elim (left.complete k s at before sign) [
          | inl earlier ↦ inl earlier
          | inr among ↦ inr (among-left list more s among)
        ]
        | inr behind ↦ elim (right.complete k s behind below sign) [
          | inl earlier ↦ inl earlier
          | inr among ↦ inr (among-right list more s among)
        ]
      ];
      in_order = λ i j p q lt within first second. elim (cases_lt j n) [
        | inl before ↦
            let one : get_or (list ++ more) i 0 ≡ get_or list i 0 = get_or_append_left list more 0 i (omega (arith, lt, before)) in
            let two : get_or (list ++ more) j 0 ≡ get_or list j 0 = get_or_append_left list more 0 j before in
            rw one (rw two (left.in_order i j p q lt before (subst (λ (t : ℕ). IsFirstSign v t p) one first) (subst (λ (t : ℕ). IsFirstSign v t q) two second)))
        | inr behind ↦
            let two : get_or (list ++ more) j 0 ≡ get_or more (j - n) 0 = get_or-append_right list more j 0 behind in
            let last : IsFirstSign v (get_or more (j - n) 0) q = subst (λ (t : ℕ). IsFirstSign v t q) two second in
            let inside : j - n < length more = omega (arith, within, long, behind) in
            elim (cases_lt i n) [
              | inl early ↦
                  let one : get_or (list ++ more) i 0 ≡ get_or list i 0 = get_or_append_left list more 0 i early in
                  let old = left.sound i early in
                  let below : old.place < 512 * mid = old.below in
                  let here : p ≡ old.place = first-one v (get_or list i 0) p old.place (subst (λ (t : ℕ). IsFirstSign v t p) one first) old.first in
                  let new = right.sound (j - n) inside in
                  let on : 512 * mid ≤ new.place = new.from_on in
                  let there : q ≡ new.place = first-one v (get_or more (j - n) 0) q new.place last new.first in
                  inl (omega (arith, below, here, on, there))
              | inr late ↦
                  let one : get_or (list ++ more) i 0 ≡ get_or more (i - n) 0 = get_or-append_right list more i 0 late in
                  rw one (rw two (right.in_order (i - n) (j - n) p q (omega (arith, lt, late)) inside (subst (λ (t : ℕ). IsFirstSign v t p) one first) last))
            ]
      ];
    }

-- each start with a sign is in the list of all
among-all : (v list : List ℕ) (from : ℕ) → AreStartsBetween v 0 from list → HasNoSignFrom v from → (n s p : ℕ) → p < n → IsSign v s p → IsAmong list s
among-all v list from told none zero s p below sign = absurd (omega (arith, below))
among-all v list from told none (suc n) s p below sign =
    let at = sign-sector v s p sign in
    let k : ℕ = at.0 in
    let there : p ≡ 512 * k = at.1 in
    let here : IsSign v s (512 * k) = subst (IsSign v s) there sign in
    elim (cases_lt k from) [
      | inl before ↦ elim (told.complete k s (omega arith) before here) [
        | inl earlier ↦
            let low : earlier.place < 512 * k = earlier.before in
            among-all v list from told none n s earlier.place (omega (arith, low, there, below)) earlier.sign
        | inr among ↦ among
      ]
      | inr behind ↦ absurd (none k s behind here)
    ]

-- and no other
pub starts-all : (v : List ℕ) (from : ℕ) (list : List ℕ) → AreStartsBetween v 0 from list → HasNoSignFrom v from → AreStarts v list
starts-all v from list told none = record {
  sound = λ i lt. let is = told.sound i lt in record { place = is.place; sign = is.first.sign };
  complete = λ s start. among-all v list from told none (start.place + 1) s start.place (omega arith) start.sign;
  once = λ i j lt within same.
      let right = told.sound j within in
      let first : IsFirstSign v (get_or list i 0) right.place = subst (λ (t : ℕ). IsFirstSign v t right.place) (sym same) right.first in
      elim (told.in_order i j right.place right.place lt within first right.first) [
        | inl before ↦ omega (arith, before)
        | inr rising ↦ (let below : get_or list i 0 < get_or list j 0 = rising.1 in omega (arith, below, same))
      ];
  in_order = told.in_order;
}
