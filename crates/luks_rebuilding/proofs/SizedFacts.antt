-- The first candidate of the copies of one size, or of the second copy of that size.
use Rattle.std.proofs.Common.{◌≡◌, ◌≢◌, ℕ, ◌⊎◌, List, [], ◌∷◌, inl, inr, arith, refl, sym, ap, ◌∙◌, subst, Option, Some, None, Result, Ok, Err, IfOk, IfSome}
use Rattle.luks_area.specs.First.{NotAfter}
use Rattle.luks2_header.specs.Sizes.{IsListed}
use Rattle.luks2_header.proofs.CopyFacts.{listed_at_least}
use Rattle.luks_rebuilding.specs.Candidates.{json_of, place_key, HasToBeRead, IsBegun, IsCandidate}
use Rattle.luks_rebuilding.specs.Found.{place_of, BreaksAt, BreaksFirst, FindsAt, FindsFirst, IsWholeAt}
use Rattle.luks_rebuilding.specs.declared.candidate.Candidate.{Candidate}
use Rattle.luks_rebuilding.specs.declared.place.Half.TheVariants.{First, Second}
use Rattle.luks_rebuilding.specs.declared.place.Place.{Place}
use Rattle.luks_rebuilding.specs.declared.place.Copies.{Copies}
use Rattle.luks_rebuilding.specs.declared.place.Copies.TheVariants as ask
use Rattle.luks_rebuilding.specs.declared.rebuild_fault.RebuildFault.{RebuildFault}
use Rattle.luks_rebuilding.proofs.SearchFacts.{key_first, key_second, memory_so, place_not_after}

-- a second copy doesn't are at the start
second_apart : (size : ℕ) → IsListed size → size ≢ 0
second_apart size listed e = let large = listed_at_least size listed in omega (arith, large, e)

module _ (v : List ℕ) (size : ℕ) where
  abbrev OneSize : Copies → Type 0
  OneSize which = (q : Place) → IsCandidate v which q → q.size ≡ size

  -- a candidate of this size is the first copy or the second
  as_copy : (which : Copies) → OneSize which → (q : Place) → IsCandidate v which q
      → ((q.at ≡ 0) × IsWholeAt v (place_of First size)) ⊎ ((q.at ≢ 0) × IsWholeAt v (place_of Second size))
  as_copy which sized q x =
      let long : q.size ≡ size = sized q x in
      let whole : IsWholeAt v q = record { is_place = x.is_place; faultless = x.faultless } in
      elim x.is_place.first_or_second [
        | inl zero ↦ inl (zero, subst (IsWholeAt v) (first_eta q zero long) whole)
        | inr behind ↦ inr ((λ e. second_apart q.size x.is_place.listed (sym behind ∙ e)), subst (IsWholeAt v) (second_eta q behind long) whole)
      ]
    where
      first_eta : (q : Place) → q.at ≡ 0 → q.size ≡ size → q ≡ place_of First size
      first_eta q at long = ap (λ o. let r : Place = record { size = q.size; at = o } in r) at ∙ ap (λ n. let r : Place = record { size = n; at = 0 } in r) long

      second_eta : (q : Place) → q.at ≡ q.size → q.size ≡ size → q ≡ place_of Second size
      second_eta q at long = ap (λ o. let r : Place = record { size = q.size; at = o } in r) at ∙ ap (λ n. let r : Place = record { size = n; at = n } in r) long

  -- no candidate of this size comes before the first copy
  first_of_size : (g : Place) → IsCandidate v (ask.OfSize size) g → NotAfter (place_key (place_of First size)) (place_key g)
  first_of_size g is = elim (as_copy (ask.OfSize size) (λ q x. x.asked) g is) [
    | inl first ↦
        let same : size ≡ g.size = sym is.asked in
        place_not_after (place_of First size) g (1 ∷ size ∷ []) (1 ∷ g.size ∷ []) (key_first (place_of First size) refl) (key_first g first.0)
        (omega arith, λ e. (omega (arith, same), λ f. tt))
    | inr second ↦
        place_not_after (place_of First size) g (1 ∷ size ∷ []) (2 ∷ g.size ∷ []) (key_first (place_of First size) refl) (key_second g second.0)
        (omega arith, λ e. absurd (omega (arith, e)))
  ]

  -- nor before the second copy, where the first isn't one
  second_of_size : (which : Copies) → OneSize which → IsListed size → ((g : Place) → IsCandidate v which g → g.at ≡ 0 → ⊥)
      → (g : Place) → IsCandidate v which g → NotAfter (place_key (place_of Second size)) (place_key g)
  second_of_size which sized listed none g is = elim (as_copy which sized g is) [
    | inl first ↦ absurd (none g is first.0)
    | inr second ↦
        let same : size ≡ g.size = sym (sized g is) in
        place_not_after (place_of Second size) g (2 ∷ size ∷ []) (2 ∷ g.size ∷ []) (key_second (place_of Second size) (second_apart size listed)) (key_second g second.0)
        (omega arith, λ e. (omega (arith, same), λ f. tt))
  ]

  no_first : FindsAt v (place_of First size) None → (g : Place) → IsCandidate v (ask.OfSize size) g → g.at ≡ 0 → ⊥
  no_first none g is zero = elim (as_copy (ask.OfSize size) (λ q x. x.asked) g is) [
    | inl first ↦ none first.1
    | inr second ↦ second.0 zero
  ]

  -- ---- what is found

  -- what was found at a place, of the candidate's own
  at_own : (place : Place) (c : Candidate) → c.place ≡ place → FindsAt v place (Some c) → IsWholeAt v c.place × (c.json.items ≡ json_of v c.place)
  at_own place c there x = (subst (IsWholeAt v) (sym there) x.0, subst (λ (q : Place). c.json.items ≡ json_of v q) (sym there) x.1)

  pub sized_first : (c : Candidate) → c.place ≡ place_of First size → FindsAt v (place_of First size) (Some c) → FindsFirst v (ask.OfSize size) (Some c)
  sized_first c there x =
      let own = at_own (place_of First size) c there x in (
        (
          record { is_place = own.0.is_place; asked = ap (λ (q : Place). q.size) there; faultless = own.0.faultless },
          λ g is. subst (λ (q : Place). NotAfter (place_key q) (place_key g)) (sym there) (first_of_size g is),
        ),
        own.1,
      )

  pub sized_second : (found : Option Candidate) → FindsAt v (place_of First size) None → IfSome found (λ c. c.place ≡ place_of Second size)
      → FindsAt v (place_of Second size) found → FindsFirst v (ask.OfSize size) found
  sized_second None before there none = λ (q : Place) is. elim (as_copy (ask.OfSize size) (λ q x. x.asked) q is) [
    | inl first ↦ before first.1
    | inr second ↦ none second.1
  ]
  sized_second (Some c) before there x =
      let own = at_own (place_of Second size) c there x in (
        (
          record { is_place = own.0.is_place; asked = ap (λ (q : Place). q.size) there; faultless = own.0.faultless },
          λ g is. subst (λ (q : Place). NotAfter (place_key q) (place_key g)) (sym there)
              (second_of_size (ask.OfSize size) (λ q y. y.asked) x.0.is_place.listed (no_first before) g is),
        ),
        own.1,
      )

  pub second_sized : (found : Option Candidate) → IfSome found (λ c. c.place ≡ place_of Second size) → FindsAt v (place_of Second size) found
      → FindsFirst v (ask.SecondOfSize size) found
  second_sized None there none = λ (q : Place) is. elim (as_copy (ask.SecondOfSize size) (λ q x. x.asked.0) q is) [
    | inl first ↦ absurd (is.asked.1 first.0)
    | inr second ↦ none second.1
  ]
  second_sized (Some c) there x =
      let own = at_own (place_of Second size) c there x in (
        (
          record {
            is_place = own.0.is_place;
            asked = (ap (λ (q : Place). q.size) there, λ e. second_apart size x.0.is_place.listed (sym (ap (λ (q : Place). q.at) there) ∙ e));
            faultless = own.0.faultless;
          },
          λ g is. subst (λ (q : Place). NotAfter (place_key q) (place_key g)) (sym there)
              (second_of_size (ask.SecondOfSize size) (λ q y. y.asked.0) x.0.is_place.listed (λ h y zero. y.asked.1 zero) g is),
        ),
        own.1,
      )

  -- ---- where the search was broken off

  abbrev SomeToBeRead : Copies → Type 0
  SomeToBeRead which = (place : Place) × HasToBeRead v which place

  pub first_broken : (f : RebuildFault) → BreaksAt v (place_of First size) f → BreaksFirst v (ask.OfSize size) f
  first_broken f x = memory_so (IsBegun v (place_of First size)) (SomeToBeRead (ask.OfSize size)) (λ begun.
      (place_of First size, record { begun = begun; asked = refl; none_before = first_of_size })) f x

  pub after_broken : FindsAt v (place_of First size) None → (f : RebuildFault) → BreaksAt v (place_of Second size) f → BreaksFirst v (ask.OfSize size) f
  after_broken before f x = memory_so (IsBegun v (place_of Second size)) (SomeToBeRead (ask.OfSize size)) (λ begun. (
    place_of Second size,
    record {
      begun = begun;
      asked = refl;
      none_before = second_of_size (ask.OfSize size) (λ q y. y.asked) begun.is_place.listed (no_first before);
    },
  )) f x

  pub second_broken : (f : RebuildFault) → BreaksAt v (place_of Second size) f → BreaksFirst v (ask.SecondOfSize size) f
  second_broken f x = memory_so (IsBegun v (place_of Second size)) (SomeToBeRead (ask.SecondOfSize size)) (λ begun. (
    place_of Second size,
    record {
      begun = begun;
      asked = (refl, second_apart size begun.is_place.listed);
      none_before = second_of_size (ask.SecondOfSize size) (λ q y. y.asked.0) begun.is_place.listed (λ h y zero. y.asked.1 zero);
    },
  )) f x

  -- ---- of the result of the last search

  pub sized_result : {F : Type 0} (r : Result (Option Candidate) F) → FindsAt v (place_of First size) None
      → IfOk r (λ found. IfSome found (λ c. c.place ≡ place_of Second size)) → IfOk r (FindsAt v (place_of Second size)) → IfOk r (FindsFirst v (ask.OfSize size))
  sized_result (Ok found) before there x = sized_second found before there x
  sized_result (Err f) before there x = tt

  pub second_sized_result : {F : Type 0} (r : Result (Option Candidate) F) → IfOk r (λ found. IfSome found (λ c. c.place ≡ place_of Second size))
      → IfOk r (FindsAt v (place_of Second size)) → IfOk r (FindsFirst v (ask.SecondOfSize size))
  second_sized_result (Ok found) there x = second_sized found there x
  second_sized_result (Err f) there x = tt
