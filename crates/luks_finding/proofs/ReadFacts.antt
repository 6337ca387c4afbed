-- The list of the starts that can be read.
use Rattle.std.proofs.Common.{◌≡◌, ℕ, ◌+◌, ◌-◌, ◌*◌, ◌<◌, ◌≤◌, ◌⊎◌, List, [], ◌∷◌, ◌++◌, inl, inr, length, get_or, sym, ◌∙◌, subst, arith, length-append}
use Rattle.std.proofs.lemmas.Bool.{cases_lt}
use Rattle.std.proofs.lemmas.List.{get_or_append_left}
use Rattle.std.proofs.Math.Seq.{get_or-append_right}
use Rattle.luks_finding.specs.Readable.{sectors_of, AreReadTo, EndBefore, IsFirstRead, IsPassed, IsReadSign}
use Rattle.luks_finding.specs.Starts.{IsAmong}
use Rattle.luks_finding.specs.declared.passed.Passed.{Passed}
use Rattle.luks_finding.proofs.ListFacts.{among-left, among-right}
use Rattle.luks_finding.proofs.SignFacts.{sign-sector}

-- ---- what was passed over

pub passed-left : (xs ys : List Passed) (p : ℕ) → IsPassed xs p → IsPassed (xs ++ ys) p
passed-left [] ys p is = absurd is
passed-left (x ∷ xs) ys p (inl is) = inl is
passed-left (x ∷ xs) ys p (inr is) = inr (passed-left xs ys p is)

pub passed-right : (xs ys : List Passed) (p : ℕ) → IsPassed ys p → IsPassed (xs ++ ys) p
passed-right [] ys p is = is
passed-right (x ∷ xs) ys p is = inr (passed-right xs ys p is)

pub passed-either : (xs ys : List Passed) (p : ℕ) → IsPassed (xs ++ ys) p → IsPassed xs p ⊎ IsPassed ys p
passed-either [] ys p is = inr is
passed-either (x ∷ xs) ys p (inl is) = inl (inl is)
passed-either (x ∷ xs) ys p (inr is) = elim (passed-either xs ys p is) [
  | inl left ↦ inl (inr left)
  | inr right ↦ inr right
]

-- what ends before a sector has no place behind it
pub passed-below : (xs : List Passed) (end p : ℕ) → EndBefore xs end → IsPassed xs p → p < 512 * end
passed-below [] end p before is = absurd is
passed-below (x ∷ xs) end p before (inl is) =
    let below : p < 512 * x.to = is.1 in
    let ends : x.to ≤ end = before.0 in
    omega (arith, below, ends)
passed-below (x ∷ xs) end p before (inr is) = passed-below xs end p before.1 is

pub before-further : (xs : List Passed) (end next : ℕ) → end ≤ next → EndBefore xs end → EndBefore xs next
before-further [] end next further before = tt
before-further (x ∷ xs) end next further before =
    let ends : x.to ≤ end = before.0 in
    (omega (arith, ends, further), before-further xs end next further before.1)

pub before-both : (xs ys : List Passed) (end : ℕ) → EndBefore xs end → EndBefore ys end → EndBefore (xs ++ ys) end
before-both [] ys end left right = right
before-both (x ∷ xs) ys end left right = (left.0, before-both xs ys end left.1 right)

pub sectors-join : (xs ys : List Passed) → sectors_of (xs ++ ys) ≡ sectors_of xs + sectors_of ys
sectors-join [] ys = omega arith
sectors-join (x ∷ xs) ys = let rest : sectors_of (xs ++ ys) ≡ sectors_of xs + sectors_of ys = sectors-join xs ys in omega (arith, rest)

-- ---- first signs

pub read-behind : (v : List ℕ) (passed : List Passed) (s p q : ℕ) → IsFirstRead v passed s p → IsReadSign v passed s q → p ≤ q
read-behind v passed s p q first sign = elim (cases_lt q p) [
  | inl before ↦ absurd (first.first (record { place = q; before = before; sign = sign }))
  | inr behind ↦ behind
]

pub read-one : (v : List ℕ) (passed : List Passed) (s p q : ℕ) → IsFirstRead v passed s p → IsFirstRead v passed s q → p ≡ q
read-one v passed s p q first second =
    let left : p ≤ q = read-behind v passed s p q first second.sign in
    let right : q ≤ p = read-behind v passed s q p second first.sign in
    omega (arith, left, right)

-- two sets of stretches that are the same before a place
abbrev pub AreSameBefore : ℕ → List Passed → List Passed → Type 0
AreSameBefore end xs ys = (p : ℕ) → p < end → (IsPassed xs p → IsPassed ys p) × (IsPassed ys p → IsPassed xs p)

same-sign : (v : List ℕ) (xs ys : List Passed) (end s p : ℕ) → AreSameBefore end xs ys → p < end → IsReadSign v xs s p → IsReadSign v ys s p
same-sign v xs ys end s p same low sign = record { sign = sign.sign; read = λ is. sign.read ((same p low).1 is) }

same-back : (xs ys : List Passed) (end : ℕ) → AreSameBefore end xs ys → AreSameBefore end ys xs
same-back xs ys end same = λ p low. ((same p low).1, (same p low).0)

same-first : (v : List ℕ) (xs ys : List Passed) (end s p : ℕ) → AreSameBefore end xs ys → p < end → IsFirstRead v xs s p → IsFirstRead v ys s p
same-first v xs ys end s p same low first = record {
  sign = same-sign v xs ys end s p same low first.sign;
  first = λ before.
      let below : before.place < p = before.before in
      first.first (record { place = before.place; before = before.before; sign = same-sign v ys xs end s before.place (same-back xs ys end same) (omega (arith, below, low)) before.sign });
}

-- ---- a step

-- what a step says of the sectors from `from` on and before `next`, of which one, `k`, may tell volumes: those of a list, that
-- weren't told
pub record IsNews (v : List ℕ) (passed : List Passed) (from k next : ℕ) (told list : List ℕ) : Type 0 where
  pub low : from ≤ k
  pub high : length list ≡ 0 ⊎ (k < next)
  pub none : (n s : ℕ) → from ≤ n → n < next → (n ≡ k → ⊥) → IsReadSign v passed s (512 * n) → ⊥
  pub signs : (i : ℕ) → i < length list → IsReadSign v passed (get_or list i 0) (512 * k)
  pub fresh : (i : ℕ) → i < length list → IsAmong told (get_or list i 0) → ⊥
  pub rising : (i j : ℕ) → i < j → j < length list → get_or list i 0 < get_or list j 0
  pub all : (s : ℕ) → k < next → IsReadSign v passed s (512 * k) → IsAmong told s ⊎ IsAmong list s

-- the first sign of a volume that is told stands where it is told
news-first : (v : List ℕ) (xs ys : List Passed) (from k next : ℕ) (told list : List ℕ) → AreSameBefore (512 * from) xs ys → AreReadTo v xs from told → IsNews v ys from k next told list
    → k < next → (i : ℕ) → i < length list → IsFirstRead v ys (get_or list i 0) (512 * k)
news-first v xs ys from k next told list same so_far news high i lt = record {
  sign = news.signs i lt;
  first = λ before.
      let s : ℕ = get_or list i 0 in
      let at = sign-sector v s before.place before.sign.sign in
      let n : ℕ = at.0 in
      let there : before.place ≡ 512 * n = at.1 in
      let low : before.place < 512 * k = before.before in
      let here : IsReadSign v ys s (512 * n) = subst (IsReadSign v ys s) there before.sign in
      elim (cases_lt n from) [
        | inl early ↦
            let old : IsReadSign v xs s (512 * n) = same-sign v ys xs (512 * from) s (512 * n) (same-back xs ys (512 * from) same) (omega (arith, early)) here in
            news.fresh i lt (so_far.complete n s early old)
        | inr late ↦ news.none n s late (omega (arith, low, there, high)) (λ is. omega (arith, is, low, there)) here
      ];
}

-- a number is this one, or it isn't
which : (n k : ℕ) → (n ≡ k) ⊎ (n ≡ k → ⊥)
which n k = elim (cases_lt n k) [
  | inl below ↦ inr (λ is. omega (arith, is, below))
  | inr behind ↦ elim (cases_lt k n) [
    | inl above ↦ inr (λ is. omega (arith, is, above))
    | inr same ↦ inl (omega (arith, behind, same))
  ]
]

-- a place in one list and then another
join-left : (list more : List ℕ) (i : ℕ) → i < length list → get_or (list ++ more) i 0 ≡ get_or list i 0
join-left list more i lt = get_or_append_left list more 0 i lt

join-right : (list more : List ℕ) (i : ℕ) → length list ≤ i → get_or (list ++ more) i 0 ≡ get_or more (i - length list) 0
join-right list more i behind = get_or-append_right list more i 0 behind

-- a part that is told, and no sector of which tells more
some-sector : (list : List ℕ) (k next i : ℕ) → (length list ≡ 0) ⊎ (k < next) → i < length list → k < next
some-sector list k next i (inl none) lt = absurd (omega (arith, none, lt))
some-sector list k next i (inr is) lt = is

-- all that were told before, and the news
pub read-further : (v : List ℕ) (xs ys : List Passed) (from k next : ℕ) (told list : List ℕ) → from ≤ next → AreSameBefore (512 * from) xs ys → EndBefore ys next
    → AreReadTo v xs from told → IsNews v ys from k next told list → AreReadTo v ys next (told ++ list)
read-further v xs ys from k next told list further same ends so_far news =
    let n : ℕ = length told in
    let all : List ℕ = told ++ list in
    let long : length all ≡ n + length list = length-append told list in
    let low : from ≤ k = news.low in
    record {
      behind = ends;
      sound = λ i lt. elim (cases_lt i n) [
        | inl before ↦
            let is = so_far.sound i before in
            let below : is.place < 512 * from = is.below in
            let first : IsFirstRead v ys (get_or told i 0) is.place = same-first v xs ys (512 * from) (get_or told i 0) is.place same is.below is.first in
            record { place = is.place; below = omega (arith, below, further); first = subst (λ (t : ℕ). IsFirstRead v ys t is.place) (sym (join-left told list i before)) first }
        | inr behind ↦
            let inside : i - n < length list = omega (arith, lt, long, behind) in
            let high : k < next = some-sector list k next (i - n) news.high inside in
            let first = news-first v xs ys from k next told list same so_far news high (i - n) inside in
            record { place = 512 * k; below = omega (arith, high); first = subst (λ (t : ℕ). IsFirstRead v ys t (512 * k)) (sym (join-right told list i behind)) first }
      ];
      complete = λ m s below sign. elim (cases_lt m from) [
        | inl early ↦ among-left told list s (so_far.complete m s early (same-sign v ys xs (512 * from) s (512 * m) (same-back xs ys (512 * from) same) (omega (arith, early)) sign))
        | inr late ↦ elim (which m k) [
          | inl here ↦ elim (news.all s (omega (arith, here, below)) (subst (λ (j : ℕ). IsReadSign v ys s (512 * j)) here sign)) [
            | inl old ↦ among-left told list s old
            | inr new ↦ among-right told list s new
          ]
          | inr other ↦ absurd (news.none m s late below other sign)
        ]
      ];
      in_order = λ i j p q lt within first second. elim (cases_lt j n) [
        | inl before ↦
            let early : i < n = omega (arith, lt, before) in
            let one : get_or all i 0 ≡ get_or told i 0 = join-left told list i early in
            let two : get_or all j 0 ≡ get_or told j 0 = join-left told list j before in
            let left = so_far.sound i early in
            let right = so_far.sound j before in
            let here : IsFirstRead v ys (get_or told i 0) p = subst (λ (t : ℕ). IsFirstRead v ys t p) one first in
            let there : IsFirstRead v ys (get_or told j 0) q = subst (λ (t : ℕ). IsFirstRead v ys t q) two second in
            let below : left.place < 512 * from = left.below in
            let under : right.place < 512 * from = right.below in
            let p_is : p ≡ left.place = read-one v ys (get_or told i 0) p left.place here (same-first v xs ys (512 * from) (get_or told i 0) left.place same left.below left.first) in
            let q_is : q ≡ right.place = read-one v ys (get_or told j 0) q right.place there (same-first v xs ys (512 * from) (get_or told j 0) right.place same right.below right.first) in
            rw one (rw two (so_far.in_order i j p q lt before
            (same-first v ys xs (512 * from) (get_or told i 0) p (same-back xs ys (512 * from) same) (omega (arith, p_is, below)) here)
            (same-first v ys xs (512 * from) (get_or told j 0) q (same-back xs ys (512 * from) same) (omega (arith, q_is, under)) there)))
        | inr behind ↦
            let two : get_or all j 0 ≡ get_or list (j - n) 0 = join-right told list j behind in
            let inside : j - n < length list = omega (arith, within, long, behind) in
            let high : k < next = some-sector list k next (j - n) news.high inside in
            let there : IsFirstRead v ys (get_or list (j - n) 0) q = subst (λ (t : ℕ). IsFirstRead v ys t q) two second in
            let q_is : q ≡ 512 * k = read-one v ys (get_or list (j - n) 0) q (512 * k) there (news-first v xs ys from k next told list same so_far news high (j - n) inside) in
            elim (cases_lt i n) [
              | inl early ↦
                  let one : get_or all i 0 ≡ get_or told i 0 = join-left told list i early in
                  let left = so_far.sound i early in
                  let below : left.place < 512 * from = left.below in
                  let here : IsFirstRead v ys (get_or told i 0) p = subst (λ (t : ℕ). IsFirstRead v ys t p) one first in
                  let p_is : p ≡ left.place = read-one v ys (get_or told i 0) p left.place here (same-first v xs ys (512 * from) (get_or told i 0) left.place same left.below left.first) in
                  inl (omega (arith, p_is, q_is, below, low))
              | inr late ↦
                  let one : get_or all i 0 ≡ get_or list (i - n) 0 = join-right told list i late in
                  let within_i : i - n < length list = omega (arith, lt, inside) in
                  let here : IsFirstRead v ys (get_or list (i - n) 0) p = subst (λ (t : ℕ). IsFirstRead v ys t p) one first in
                  let p_is : p ≡ 512 * k = read-one v ys (get_or list (i - n) 0) p (512 * k) here (news-first v xs ys from k next told list same so_far news high (i - n) within_i) in
                  rw one (rw two (inr (p_is ∙ sym q_is, news.rising (i - n) (j - n) (omega (arith, lt, late)) inside)))
            ]
      ];
    }
