-- Each area composed of the bytes of two has a number.
use Rattle.std.proofs.Common.{◌≡◌, ℕ, zero, suc, ◌+◌, ◌-◌, ◌*◌, ◌/◌, ◌%◌, ◌^◌, ◌<◌, ◌≤◌, ◌⊎◌, ◌==◌, List, [], ◌∷◌, ◌++◌, if◌then◌else◌, inl, inr, length, get_or, set, refl, sym, ap, ◌∙◌, subst, arith, add-one}
use Rattle.std.proofs.lemmas.Bool.{cases_Bool, cases_eq, eq-eqb, ne_eqb}
use Rattle.std.proofs.lemmas.Grind.{get_or-set_at, same_number_lists}
use Rattle.std.proofs.lemmas.List.{get_or-set_other, length-append, length-set}
use Rattle.std.proofs.Math.Nat.{pow-suc}
use Rattle.luks2_searching.specs.Mixed.{differing, few_bytes, mixed, AreAllOf, AreDiffering, AreInside, DifferAt, GrowsBy, IsMixed, IsOf}

-- ---- the places

pub of_more : (p place : ℕ) (places : List ℕ) → IsOf p places → IsOf p (places ++ place ∷ [])
of_more p place [] is = absurd is
of_more p place (x ∷ xs) is = elim is [ inl here ↦ inl here | inr there ↦ inr (of_more p place xs there) ]

pub of_last : (p place : ℕ) (places : List ℕ) → p ≡ place → IsOf p (places ++ place ∷ [])
of_last p place [] is = inl is
of_last p place (x ∷ xs) is = inr (of_last p place xs is)

-- one more that differs, and one that doesn't
pub all_more : (first second places : List ℕ) (place : ℕ) → AreAllOf first second place places → AreAllOf first second (place + 1) (places ++ place ∷ [])
all_more first second places place all p below = elim (cases_eq p place) [
  | inl here ↦ inr (of_last p place places here)
  | inr other ↦ elim (all p (omega (arith, below, other))) [ inl same ↦ inl same | inr of ↦ inr (of_more p place places of) ]
]

pub all_same : (first second places : List ℕ) (place : ℕ) → get_or first place 0 ≡ get_or second place 0 → AreAllOf first second place places
    → AreAllOf first second (place + 1) places
all_same first second places place same all p below = elim (cases_eq p place) [
  | inl here ↦ inl (ap (λ k. get_or first k 0) here ∙ same ∙ ap (λ k. get_or second k 0) (sym here))
  | inr other ↦ all p (omega (arith, below, other))
]

pub inside_more : (total place : ℕ) (places : List ℕ) → AreInside total places → place < total → AreInside total (places ++ place ∷ [])
inside_more total place [] inside here zero d lt = here
inside_more total place [] inside here (suc k) d lt = absurd (omega (arith, lt))
inside_more total place (x ∷ xs) inside here zero d lt = inside 0 d (omega arith)
inside_more total place (x ∷ xs) inside here (suc k) d lt = inside_more total place xs (λ j e less. inside (suc j) e (omega (arith, less))) here k d (omega (arith, lt))

-- how many differ, one byte on
pub differing_more : (first second : List ℕ) (n : ℕ) → (get_or first n 0 ≡ get_or second n 0 → ⊥) → differing first second (n + 1) ≡ differing first second n + 1
differing_more first second n other =
    ap (differing first second) (add-one n) ∙ ap (λ b. differing first second n + (if b then 0 else 1)) (ne_eqb (get_or first n 0) (get_or second n 0) other)

pub differing_same : (first second : List ℕ) (n : ℕ) → get_or first n 0 ≡ get_or second n 0 → differing first second (n + 1) ≡ differing first second n
differing_same first second n same =
    let zero_more : differing first second n + 0 ≡ differing first second n = omega arith in
    ap (differing first second) (add-one n) ∙ ap (λ b. differing first second n + (if b then 0 else 1)) (eq-eqb (get_or first n 0) (get_or second n 0) same) ∙ zero_more

-- in more bytes they differ in no fewer
pub differing_grows : (first second : List ℕ) (n more : ℕ) → differing first second n ≤ differing first second (n + more)
differing_grows first second n zero = (let same : n ≡ n + 0 = omega arith in subst (λ (m : ℕ). differing first second n ≤ differing first second m) same (omega arith))
differing_grows first second n (suc more) =
    let before = differing_grows first second n more in
    let step : differing first second (n + more) ≤ differing first second (suc (n + more)) = omega arith in
    let same : suc (n + more) ≡ n + suc more = omega arith in
    subst (λ (m : ℕ). differing first second n ≤ differing first second m) same (omega (arith, before, step))

pub none_differ : (first second : List ℕ) → AreDiffering first second 0 []
none_differ first second = record { many = refl; few = omega arith; inside = λ k d lt. absurd (omega (arith, lt)); all = λ p lt. absurd (omega (arith, lt)) }

-- so it goes on
pub grown_more : (first second : List ℕ) (place : ℕ) (old new : List ℕ) → place < length first → AreDiffering first second place old → GrowsBy first second place old new
    → AreDiffering first second (place + 1) new
grown_more first second place old new inside x grows = elim grows [
  | inl same ↦ subst (λ xs. AreDiffering first second (place + 1) xs) (sym same.1) (record {
    many = x.many ∙ sym (differing_same first second place same.0);
    few = x.few;
    inside = x.inside;
    all = all_same first second old place same.0 x.all;
  })
  | inr other ↦
      let one : length (old ++ place ∷ []) ≡ length old + 1 = length-append old (place ∷ []) in
      let many = x.many in
      let next = differing_more first second place other.0 in
      let room = other.1 in
      subst (λ xs. AreDiffering first second (place + 1) xs) (sym other.2) (record {
        many = omega (arith, one, many, next);
        few = omega (arith, one, room);
        inside = inside_more (length first) place old x.inside inside;
        all = all_more first second old place x.all;
      })
]

-- where there is no room for one more they differ in more
pub not_few : (first second : List ℕ) (place : ℕ) (places : List ℕ) → place < length first → AreDiffering first second place places
    → (get_or first place 0 ≡ get_or second place 0 → ⊥) → few_bytes ≤ length places → DifferAt first second few_bytes → ⊥
not_few first second place places inside x other full few =
    let many = x.many in
    let next = differing_more first second place other in
    let rest : (place + 1) + (length first - (place + 1)) ≡ length first = omega (arith, inside) in
    let grows : differing first second (place + 1) ≤ differing first second (length first) =
    subst (λ (n : ℕ). differing first second (place + 1) ≤ differing first second n) rest (differing_grows first second (place + 1) (length first - (place + 1))) in
    omega (arith, many, next, grows, full, few)

-- ---- what is composed

-- the byte of the one area or of the other, put where it stands, leaves it composed
put_mixed : (first second json : List ℕ) (place : ℕ) → IsMixed first second json → IsMixed first second (set json place (get_or second place 0))
put_mixed first second json place x = record {
  long = length-set json place _ ∙ x.long;
  each = λ p lt. elim (cases_eq p place) [
    | inl here ↦ (let long = x.long in inr (get_or-set_at json place p _ 0 here (omega (arith, lt, long, here)) ∙ ap (λ k. get_or second k 0) (sym here)))
    | inr other ↦ elim (x.each p lt) [
      | inl one ↦ inl (get_or-set_other json place p _ 0 other ∙ one)
      | inr two ↦ inr (get_or-set_other json place p _ 0 other ∙ two)
    ]
  ];
}

pub mixed_is : (first second places json : List ℕ) (n : ℕ) → IsMixed first second json → IsMixed first second (mixed second places n json)
mixed_is first second [] json n x = x
mixed_is first second (place ∷ rest) json n x =
    mixed_is first second rest (if n % 2 == 1 then set json place (get_or second place 0) else json) (n / 2)
    (elim (cases_Bool (n % 2 == 1)) [
      | inl odd ↦ subst (λ b. IsMixed first second (if b then set json place (get_or second place 0) else json)) (sym odd) (put_mixed first second json place x)
      | inr even ↦ subst (λ b. IsMixed first second (if b then set json place (get_or second place 0) else json)) (sym even) x
    ])

pub mixed_first : (first second : List ℕ) → IsMixed first second first
mixed_first first second = record { long = refl; each = λ p lt. inl refl }

-- ---- the number

module _ (first second new : List ℕ) (is : IsMixed first second new) where
  -- `x` has at each place the byte of `new` or of the first area, and what isn't of these places is that of `new`
  record Goes (places x : List ℕ) : Type 0 where
    as_long : length x ≡ length first
    own : (p : ℕ) → p < length first → (get_or x p 0 ≡ get_or new p 0) ⊎ (get_or x p 0 ≡ get_or first p 0)
    done : (p : ℕ) → p < length first → (get_or x p 0 ≡ get_or new p 0) ⊎ IsOf p places

  number_of : (places x : List ℕ) → AreInside (length first) places → Goes places x → (n : ℕ) × (n < 2 ^ length places) × (new ≡ mixed second places n x)
  number_of [] x inside goes = (
    0,
    omega arith,
    same_number_lists new x (is.long ∙ sym goes.as_long)
        (λ p lt. (let long = is.long in elim (goes.done p (omega (arith, lt, long))) [ inl same ↦ sym same | inr none ↦ absurd none ])),
  )
  number_of (u ∷ us) x inside goes =
      let here : u < length first = inside 0 u (omega arith) in
      let inside_rest : AreInside (length first) us = λ k d lt. inside (suc k) d (omega (arith, lt)) in
      let doubled : 2 ^ suc (length us) ≡ 2 ^ length us * 2 = pow-suc 2 (length us) in
      elim (is.each u here) [
        | inl one ↦ (
            let next : Goes us x = record {
              as_long = goes.as_long;
              own = goes.own;
              done = λ p lt. elim (goes.done p lt) [
                | inl same ↦ inl same
                | inr of ↦ elim of [
                  | inl at ↦ elim (goes.own p lt) [
                    | inl same ↦ inl same
                    | inr same ↦ inl (same ∙ ap (λ k. get_or first k 0) at ∙ sym one ∙ ap (λ k. get_or new k 0) (sym at))
                  ]
                  | inr there ↦ inr there
                ]
              ];
            } in
            let r = number_of us x inside_rest next in
            let below : r.0 < 2 ^ length us = r.1 in
            let half : (r.0 * 2) / 2 ≡ r.0 = omega arith in
            let even : (r.0 * 2) % 2 ≡ 0 = omega arith in (
              r.0 * 2,
              omega (arith, below, doubled),
              r.2 ∙ ap (λ k. mixed second us k x) (sym half)
                  ∙ ap (λ k. mixed second us ((r.0 * 2) / 2) (if k == 1 then set x u (get_or second u 0) else x)) (sym even),
            )
            )
        | inr two ↦ (
            let x_long = goes.as_long in
            let within : u < length x = omega (arith, here, x_long) in
            let next : Goes us (set x u (get_or second u 0)) = record {
              as_long = length-set x u _ ∙ goes.as_long;
              own = λ p lt. elim (cases_eq p u) [
                | inl at ↦ inl (get_or-set_at x u p _ 0 at within ∙ sym two ∙ ap (λ k. get_or new k 0) (sym at))
                | inr other ↦ elim (goes.own p lt) [
                  | inl same ↦ inl (get_or-set_other x u p _ 0 other ∙ same)
                  | inr same ↦ inr (get_or-set_other x u p _ 0 other ∙ same)
                ]
              ];
              done = λ p lt. elim (cases_eq p u) [
                | inl at ↦ inl (get_or-set_at x u p _ 0 at within ∙ sym two ∙ ap (λ k. get_or new k 0) (sym at))
                | inr other ↦ elim (goes.done p lt) [
                  | inl same ↦ inl (get_or-set_other x u p _ 0 other ∙ same)
                  | inr of ↦ elim of [ inl at ↦ absurd (other at) | inr there ↦ inr there ]
                ]
              ];
            } in
            let r = number_of us (set x u (get_or second u 0)) inside_rest next in
            let below : r.0 < 2 ^ length us = r.1 in
            let half : (r.0 * 2 + 1) / 2 ≡ r.0 = omega arith in
            let odd : (r.0 * 2 + 1) % 2 ≡ 1 = omega arith in (
              r.0 * 2 + 1,
              omega (arith, below, doubled),
              r.2 ∙ ap (λ k. mixed second us k (set x u (get_or second u 0))) (sym half)
                  ∙ ap (λ k. mixed second us ((r.0 * 2 + 1) / 2) (if k == 1 then set x u (get_or second u 0) else x)) (sym odd),
            )
            )
      ]

-- each has a number
pub number_of_mixed : (first second new places : List ℕ) → AreInside (length first) places → AreAllOf first second (length first) places → IsMixed first second new
    → (n : ℕ) × (n < 2 ^ length places) × (new ≡ mixed second places n first)
number_of_mixed first second new places inside all is = number_of first second new is places first inside (record {
  as_long = refl;
  own = λ p lt. inr refl;
  done = λ p lt. elim (all p lt) [
    | inl same ↦ inl (elim (is.each p lt) [ inl one ↦ sym one | inr two ↦ same ∙ sym two ])
    | inr of ↦ inr of
  ];
})
