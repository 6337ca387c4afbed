-- Facts on askings: each gives at least one more byte of the volume.
use Rattle.std.proofs.Common.{◌≡◌, ℕ, suc, zero, ◌+◌, ◌-◌, ◌<◌, ◌≤◌, ◌⊎◌, inl, inr, List, [], ◌∷◌, length, refl, subst, arith}
use Rattle.std.proofs.lemmas.Bool.{cases_eq, cases_lt}
use Rattle.luks_area.specs.Ranges.{IsAt}
use Rattle.luks_given.specs.declared.parts.Part.{Part}
use Rattle.luks_given.specs.Parts.{parts_length, AreApart, AreInside, HasPlace}
use Rattle.luks_given.specs.Askings.{AreAskings, AreAskingsOfTwo, AreRanges, Asking, IsAsking}
use Rattle.luks_given.proofs.PartFacts.{no_place-below}

-- how many places below `n` the ranges have together
unfoldable places_below : List Part → ℕ → ℕ
places_below [] n = 0
places_below (r ∷ rs) n = ((n - r.at) - (n - (r.at + r.len))) + places_below rs n

-- whether a range has a place is decided
has_or_not : (rs : List Part) (p : ℕ) → HasPlace rs p ⊎ (HasPlace rs p → ⊥)
unfolding HasPlace
has_or_not [] p = inr (λ has. has)
has_or_not (r ∷ rs) p = elim (has_or_not rs p) [
  | inl later ↦ inl (inr later)
  | inr none ↦ elim (cases_lt p r.at) [
    | inl below ↦ inr (λ has. elim has [ inl here ↦ (let low = here.0 in omega (arith, below, low)) | inr later ↦ none later ])
    | inr low ↦ elim (cases_lt p (r.at + r.len)) [
      | inl high ↦ inl (inl (low, high))
      | inr past ↦ inr (λ has. elim has [ inl here ↦ (let high = here.1 in omega (arith, past, high)) | inr later ↦ none later ])
    ]
  ]
]

-- none below 0
below_zero : (rs : List Part) → places_below rs 0 ≡ 0
unfolding places_below
below_zero [] = refl
below_zero (r ∷ rs) = let rest = below_zero rs in omega (arith, rest)

-- a place that no range has isn't counted
below_without : (rs : List Part) (n : ℕ) → (HasPlace rs n → ⊥) → places_below rs (suc n) ≡ places_below rs n
unfolding places_below HasPlace
below_without [] n none = refl
below_without (r ∷ rs) n none =
    let rest : places_below rs (suc n) ≡ places_below rs n = below_without rs n (λ later. none (inr later)) in
    elim (cases_lt n r.at) [
      | inl below ↦ omega (arith, rest, below)
      | inr low ↦ elim (cases_lt n (r.at + r.len)) [
        | inl high ↦ absurd (none (inl (low, high)))
        | inr past ↦ omega (arith, rest, low, past)
      ]
    ]

-- one that a range has is counted once
below_with : (free : ℕ) (rs : List Part) (n : ℕ) → AreApart free rs → HasPlace rs n → places_below rs (suc n) ≡ places_below rs n + 1
unfolding places_below HasPlace AreApart
below_with free [] n apart has = absurd has
below_with free (r ∷ rs) n apart has = elim has [
  | inl here ↦ (
      let low = here.0 in
      let high = here.1 in
      let rest : places_below rs (suc n) ≡ places_below rs n = below_without rs n (no_place-below (r.at + r.len + 1) n rs apart.1 (omega (arith, high))) in
      omega (arith, rest, low, high))
  | inr later ↦ (
      let rest : places_below rs (suc n) ≡ places_below rs n + 1 = below_with (r.at + r.len + 1) rs n apart.1 later in
      elim (cases_lt n (r.at + r.len + 1)) [
        | inl early ↦ absurd (no_place-below (r.at + r.len + 1) n rs apart.1 early later)
        | inr past ↦ omega (arith, rest, past)
      ])
]

-- no more than there are
below_at_most : (free : ℕ) (rs : List Part) (n : ℕ) → AreApart free rs → places_below rs n ≤ n
below_at_most free rs zero apart = let none = below_zero rs in omega (arith, none)
below_at_most free rs (suc n) apart =
    let fewer = below_at_most free rs n apart in
    elim (has_or_not rs n) [
      | inl has ↦ (let more = below_with free rs n apart has in omega (arith, fewer, more))
      | inr none ↦ (let same = below_without rs n none in omega (arith, fewer, same))
    ]

-- of ranges within so many bytes all places are
below_all : (rs : List Part) (total : ℕ) → AreInside total rs → places_below rs total ≡ parts_length rs
unfolding places_below parts_length AreInside
below_all [] total inside = refl
below_all (r ∷ rs) total inside =
    let ends = inside.0 in
    let rest = below_all rs total inside.1 in
    omega (arith, ends, rest)

-- who keeps all places has as many below each
below_kept : (rs qs : List Part) (n : ℕ) → AreApart 0 rs → AreApart 0 qs → ((p : ℕ) → HasPlace rs p → HasPlace qs p) → places_below rs n ≤ places_below qs n
below_kept rs qs zero apart others kept = let none = below_zero rs in omega (arith, none)
below_kept rs qs (suc n) apart others kept =
    let fewer = below_kept rs qs n apart others kept in
    elim (has_or_not rs n) [
      | inl has ↦ (let one = below_with 0 rs n apart has in let other = below_with 0 qs n others (kept n has) in omega (arith, fewer, one, other))
      | inr none ↦ (
          let same = below_without rs n none in
          elim (has_or_not qs n) [
            | inl has ↦ (let more = below_with 0 qs n others has in omega (arith, fewer, same, more))
            | inr without ↦ (let other = below_without qs n without in omega (arith, fewer, same, other))
          ])
    ]

-- and more, where one place is new
below_more : (rs qs : List Part) (n p : ℕ) → AreApart 0 rs → AreApart 0 qs → ((p : ℕ) → HasPlace rs p → HasPlace qs p) → p < n → (HasPlace rs p → ⊥) → HasPlace qs p
    → places_below rs n < places_below qs n
below_more rs qs zero p apart others kept below none has = absurd (omega (arith, below))
below_more rs qs (suc n) p apart others kept below none has = elim (cases_eq p n) [
  | inl last ↦ (
      let fewer = below_kept rs qs n apart others kept in
      let same = below_without rs n (subst (λ k. HasPlace rs k → ⊥) last none) in
      let more = below_with 0 qs n others (subst (HasPlace qs) last has) in
      omega (arith, fewer, same, more))
  | inr other ↦ (
      let fewer = below_more rs qs n p apart others kept (omega (arith, below, other)) none has in
      elim (has_or_not rs n) [
        | inl both ↦ (let one = below_with 0 rs n apart both in let two = below_with 0 qs n others (kept n both) in omega (arith, fewer, one, two))
        | inr without ↦ (
            let same = below_without rs n without in
            elim (has_or_not qs n) [
              | inl new ↦ (let more = below_with 0 qs n others new in omega (arith, fewer, same, more))
              | inr neither ↦ (let alike = below_without qs n neither in omega (arith, fewer, same, alike))
            ])
      ])
]

-- ranges have no more bytes than the volume
ranges_fit : (rs : List Part) (total : ℕ) → AreRanges rs total → parts_length rs ≤ total
ranges_fit rs total are =
    let all = below_all rs total are.inside in
    let most = below_at_most 0 rs total are.apart in
    omega (arith, all, most)

-- after an asking more bytes are given
asking_gives : (rs : List Part) (total : ℕ) (asking : Asking) → AreRanges rs total → IsAsking rs total asking → parts_length rs < parts_length asking.given
asking_gives rs total asking are is =
    let w : Part = asking.wanted in
    let some = is.wants.some in
    let inside = is.wants.inside in
    let here : IsAt w.at w.len w.at = (omega arith, omega (arith, some)) in
    let more = below_more rs asking.given total w.at are.apart is.ranges.apart is.kept (omega (arith, some, inside)) is.wants.missing (is.has w.at here) in
    let one = below_all rs total are.inside in
    let other = below_all asking.given total is.ranges.inside in
    omega (arith, more, one, other)

-- so there are no more askings than bytes that weren't given
pub askings_bounded : (rs : List Part) (total : ℕ) (askings : List Asking) → AreRanges rs total → AreAskings rs total askings → length askings + parts_length rs ≤ total
unfolding AreAskings
askings_bounded rs total [] are all = let fits = ranges_fit rs total are in omega (arith, fits)
askings_bounded rs total (asking ∷ askings) are all =
    let more = asking_gives rs total asking are all.0 in
    let rest = askings_bounded asking.given total askings all.0.ranges all.1 in
    omega (arith, more, rest)

-- nor of two volumes
pub askings_of_two_bounded : (source : List Part) (n : ℕ) (rs : List Part) (total : ℕ) (askings : List (Asking ⊎ Asking)) → AreRanges source n → AreRanges rs total
    → AreAskingsOfTwo source n rs total askings → length askings + (parts_length source + parts_length rs) ≤ n + total
unfolding AreAskingsOfTwo
askings_of_two_bounded source n rs total [] first are all =
    let one = ranges_fit source n first in
    let other = ranges_fit rs total are in
    omega (arith, one, other)
askings_of_two_bounded source n rs total (inl asking ∷ askings) first are all =
    let more = asking_gives source n asking first all.0 in
    let rest = askings_of_two_bounded asking.given n rs total askings all.0.ranges are all.1 in
    omega (arith, more, rest)
askings_of_two_bounded source n rs total (inr asking ∷ askings) first are all =
    let more = asking_gives rs total asking are all.0 in
    let rest = askings_of_two_bounded source n asking.given total askings first all.0.ranges all.1 in
    omega (arith, more, rest)
