-- The place that a pattern gives, or lacks.
use Rattle.std.proofs.Common.{◌≡◌, ℕ, ◌+◌, ◌^◌, ◌<◌, ◌≤◌, List, Bool, true, false, not, IsTrue, ◌↔◌, inl, inr, refl, subst, arith}
use Rattle.std.proofs.lemmas.Bool.{cases_lt}
use Rattle.luks_area.specs.Area.{IsInside}
use Rattle.luks_area.specs.declared.area.Area.{Area}
use Rattle.luks1_mending.specs.Areas.{stripes_area, stripes_of}
use Rattle.luks1_mending.specs.Judging.{IsFirstPairAmong, IsPairAmong, MeetsOne}
use Rattle.luks1_mending.specs.Kept.{AreKept}
use Rattle.luks1_mending.specs.Mended.{IsFirstPair, IsFree, IsInPattern, IsInStep, IsPair, LacksPattern}
use Rattle.luks1_mending.proofs.KeptFacts.{is_in, of_set}

module _ (h : List ℕ) (k total : ℕ) where
  -- there is one first pair
  pub one_pair : (a b : ℕ) → IsFirstPair h k total a → IsFirstPair h k total b → b ≡ a
  one_pair a b x y = (let here = x.first b y.pair in let there = y.first a x.pair in omega (arith, here, there))

  module _ (a n : ℕ) (first : IsFirstPair h k total a) where
    -- no sector is in step
    pub no_step : ((sector : ℕ) → sector < 2 ^ 32 → IsInStep h a n sector → ⊥) → LacksPattern h k total n
    no_step none sector stripes x =
        none sector x.small (subst (λ (p : ℕ). IsInStep h p n sector) (one_pair a x.pair first x.first) x.in_step)

    -- the sector in step isn't free
    pub not_free : (s : ℕ) → IsInStep h a n s → (IsFree h k total (stripes_area k s (stripes_of h a)) → ⊥) → LacksPattern h k total n
    not_free s here taken sector stripes x =
        let one : x.pair ≡ a = one_pair a x.pair first x.first in
        let step : IsInStep h a n sector = subst (λ (p : ℕ). IsInStep h p n sector) one x.in_step in
        let same : sector ≡ s = omega (arith, step, here) in
        let alike : stripes ≡ stripes_of h a = subst (λ (p : ℕ). stripes ≡ stripes_of h p) one x.alike in
        taken (subst (λ (t : ℕ). IsFree h k total (stripes_area k s t)) alike (subst (λ (q : ℕ). IsFree h k total (stripes_area k q stripes)) same x.free))

    -- it is
    pub in_pattern : (s : ℕ) → s < 2 ^ 32 → IsInStep h a n s → IsFree h k total (stripes_area k s (stripes_of h a)) → IsInPattern h k total n s (stripes_of h a)
    in_pattern s small here free = record { pair = a; first = first; in_step = here; small = small; alike = refl; free = free }

  -- what the set of the kept ones says of pairs and areas
  module _ (kept : ℕ → Bool) (are : AreKept h k total kept) where
    pair_there : (a : ℕ) → IsPairAmong h kept a → IsPair h k total a
    pair_there a x = record { one = of_set h k total kept are a x.one; next = of_set h k total kept are (a + 1) x.next; alike = x.alike; rising = x.rising }

    pair_among : (a : ℕ) → IsPair h k total a → IsPairAmong h kept a
    pair_among a x = record { one = is_in h k total kept are a x.one; next = is_in h k total kept are (a + 1) x.next; alike = x.alike; rising = x.rising }

    pub first_there : (a : ℕ) → IsFirstPairAmong h kept a → IsFirstPair h k total a
    first_there a x = record { pair = pair_there a x.pair; first = λ b other. x.first b (pair_among b other) }

    -- no pair gives a pattern
    pub none_there : ((a : ℕ) → IsPairAmong h kept a → ⊥) → (n : ℕ) → LacksPattern h k total n
    none_there none n sector stripes x = none x.pair (pair_among x.pair x.first.pair)

    -- the area is free exactly where it meets none of the set
    pub free_by : (area : Area) (r : Bool) → 592 ≤ area.start → IsInside area total → IsTrue r ↔ ((m : ℕ) × MeetsOne h k kept area m) → IsTrue (not r) ↔ IsFree h k total area
    free_by area true behind inside said = (
      λ is. absurd (cc),
      λ x. (let met : (m : ℕ) × MeetsOne h k kept area m = said.0 refl in absurd (x.apart met.0 (of_set h k total kept are met.0 met.1.among) met.1.meet)),
    )
    free_by area false behind inside said = (
      λ is. record {
        behind = behind;
        inside = inside;
        apart = λ m there meet. (let yes : false ≡ true = said.1 (m, record { among = is_in h k total kept are m there; meet = meet }) in cc);
      },
      λ x. refl,
    )

-- a pair before which there is none
pub first_among : (h : List ℕ) (kept : ℕ → Bool) (a : ℕ) → IsPairAmong h kept a → ((b : ℕ) → b < a → IsPairAmong h kept b → ⊥) → IsFirstPairAmong h kept a
first_among h kept a pair none = record {
  pair = pair;
  first = λ b other. elim (cases_lt b a) [
    | inl low ↦ absurd (none b low other)
    | inr over ↦ over
  ];
}
