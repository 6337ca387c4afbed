-- The search for metadata that is whole, through ascending sizes, and which candidate is the first.
use Rattle.std.proofs.Common.{◌≡◌, ◌≢◌, ℕ, ◌≤◌, ◌⊎◌, ◌==◌, nat_le, List, [], ◌∷◌, length, get_or, Bool, true, false, if◌then◌else◌, inl, inr, arith, refl, sym, ap, ◌∙◌, subst, codes, replicate, ◌++◌, ◌+◌, ◌-◌, Option, Some, None, Result, Ok, Err, IfOk, IfErr}
use Rattle.std.proofs.lemmas.Bool.{or_cases, or_left, and_parts, eqb-true, eq-eqb, leb-true, false≢true, cases_Bool}
use Rattle.std.proofs.lemmas.List.{take_rest}
use Rattle.luks_area.specs.First.{NotAfter}
use Rattle.luks_area.specs.Ranges.{part}
use Rattle.luks_area.proofs.RangeFacts.{part-part}
use Rattle.luks2_header.specs.Sizes.{is_among, IsListed}
use Rattle.luks2_header.proofs.CopyFacts.{among_pass, listed_at_least}
use Rattle.luks2_header.proofs.SecondCopyFacts.{is_rising, later}
use Rattle.luks_json.specs.AreaText.{JsonText}
use Rattle.luks_rules.specs.declared.fault.MetaFault.TheVariants.{JsonArea}
use Rattle.luks_rebuilding.specs.Candidates.{json_of, place_key, HasToBeRead, IsBegun, IsCandidate}
use Rattle.luks_rebuilding.specs.Found.{place_of, BreaksAt, BreaksFirst, BreaksHalf, FindsAt, FindsFirst, FindsHalf, IsBegunOf, IsLeastOf, IsMemoryWhere, IsWholeAt}
use Rattle.luks_rebuilding.specs.declared.candidate.Candidate.{Candidate}
use Rattle.luks_rebuilding.specs.declared.place.Half.{Half}
use Rattle.luks_rebuilding.specs.declared.place.Half.TheVariants.{First, Second}
use Rattle.luks_rebuilding.specs.declared.place.Place.{Place}
use Rattle.luks_rebuilding.specs.declared.place.Copies.{Copies}
use Rattle.luks_rebuilding.specs.declared.place.Copies.TheVariants as ask
use Rattle.luks_rebuilding.specs.declared.rebuild_fault.RebuildFault.{RebuildFault}
use Rattle.luks_rebuilding.specs.declared.rebuild_fault.RebuildFault.TheVariants as fault

-- ---- where memory is taken

-- where it holds, more may hold
pub memory_so : (A B : Type 0) → (A → B) → (f : RebuildFault) → IsMemoryWhere A f → IsMemoryWhere B f
memory_so A B so fault.Memory x = so x
memory_so A B so fault.Device x = tt
memory_so A B so f x = absurd x

-- a text that is in the JSON area begins with a brace
text_begins : (v text : List ℕ) (place : Place) → IsListed place.size → JsonText (json_of v place) text → part v (place.at + 4096) 1 ≡ codes "{"
text_begins v text place listed x =
    let large = listed_at_least place.size listed in
    let all : json_of v place ≡ 123 ∷ (x.rest ++ replicate x.zeros 0) = x.filled ∙ ap (λ (t : List ℕ). t ++ replicate x.zeros 0) x.begins in
    let front : part (json_of v place) 0 1 ≡ codes "{" = ap (λ (l : List ℕ). part l 0 1) all in
    let here : part (json_of v place) 0 1 ≡ part v (place.at + 4096 + 0) 1 = part-part v (place.at + 4096) (place.size - 4096) 0 1 (omega (arith, large)) in
    let same : place.at + 4096 ≡ place.at + 4096 + 0 = omega arith in
    ap (λ p. part v p 1) same ∙ sym here ∙ front

-- so one that begins otherwise has no text
pub not_begun : (v : List ℕ) (place : Place) → (part v (place.at + 4096) 1 ≡ codes "{" → ⊥) → IsWholeAt v place → ⊥
not_begun v place other whole = whole.faultless JsonArea (λ text x. other (text_begins v text place whole.is_place.listed x))

-- ---- sizes

-- the first of ascending numbers is the least
first_least : (xs : List ℕ) (p : ℕ) → is_rising xs ≡ true → is_among p xs ≡ true → get_or xs 0 0 ≤ p
first_least [] p rising among = absurd (false≢true among)
first_least (x ∷ xs) p rising among =
    elim (or_cases (x == p) (is_among p xs) among) [
      | inl here ↦ (let same : x ≡ p = eqb-true x p here in omega arith)
      | inr after ↦ leb-true x p (among_pass (λ y. nat_le x y) xs p ((and_parts _ _ rising).0) after)
    ]

pub first_among : (xs : List ℕ) → 1 ≤ length xs → is_among (get_or xs 0 0) xs ≡ true
first_among [] some = absurd (omega arith)
first_among (x ∷ xs) some = or_left (x == x) (is_among x xs) (eq-eqb x x refl)

-- where the copy of the first size isn't whole, one that is has a later size
pub whole_later : (v : List ℕ) (half : Half) (xs : List ℕ) (p : ℕ) → (IsWholeAt v (place_of half (get_or xs 0 0)) → ⊥) → IsWholeAt v (place_of half p)
    → is_among p xs ≡ true → is_among p (later xs) ≡ true
whole_later v half [] p none whole among = among
whole_later v half (x ∷ xs) p none whole among =
    elim (or_cases (x == p) (is_among p xs) among) [
      | inl here ↦ (let same : x ≡ p = eqb-true x p here in absurd (none (subst (λ n. IsWholeAt v (place_of half n)) (sym same) whole)))
      | inr after ↦ later_among x xs p after
    ]
  where
    later_among : (x : ℕ) (xs : List ℕ) (p : ℕ) → is_among p xs ≡ true → is_among p (later (x ∷ xs)) ≡ true
    later_among x xs p after = subst (λ (l : List ℕ). is_among p l ≡ true) (sym (take_rest (x ∷ xs) 1)) after

size_of : (half : Half) (size : ℕ) → (place_of half size).size ≡ size
size_of First size = refl
size_of Second size = refl

pub half_listed : (half : Half) (size : ℕ) → IsListed size → IsListed (place_of half size).size
half_listed First size listed = listed
half_listed Second size listed = listed

-- what was found at the first of the sizes to come is the least of its half
pub least_found : (v : List ℕ) (half : Half) (xs : List ℕ) (c : Candidate) → 1 ≤ length xs → is_rising xs ≡ true
    → ((p : ℕ) → IsListed p → IsWholeAt v (place_of half p) → is_among p xs ≡ true)
    → c.place ≡ place_of half (get_or xs 0 0) → FindsAt v (place_of half (get_or xs 0 0)) (Some c) → IsLeastOf v half c
least_found v half xs c some rising left there found =
    let size : c.place.size ≡ get_or xs 0 0 = ap (λ (q : Place). q.size) there ∙ size_of half (get_or xs 0 0) in
    record {
      is = there ∙ ap (place_of half) (sym size);
      whole = subst (IsWholeAt v) (sym there) found.0;
      read = subst (λ (q : Place). c.json.items ≡ json_of v q) (sym there) found.1;
      least = λ p listed whole. rw size (first_least xs p rising (left p listed whole));
    }

-- where the search through the sizes to come was broken off at the first of them
pub broken_half : (v : List ℕ) (half : Half) (xs : List ℕ) → is_rising xs ≡ true
    → ((p : ℕ) → IsListed p → IsWholeAt v (place_of half p) → is_among p xs ≡ true)
    → (f : RebuildFault) → BreaksAt v (place_of half (get_or xs 0 0)) f → BreaksHalf v half f
broken_half v half xs rising left f x =
    memory_so (IsBegun v (place_of half (get_or xs 0 0))) ((size : ℕ) × IsBegunOf v half size) (λ begun.
    (get_or xs 0 0, record { begun = begun; least = λ p listed whole. first_least xs p rising (left p listed whole) })) f x

-- ---- which candidate is the first

place_eta : (half : Half) (q : Place) → q.at ≡ (place_of half q.size).at → q ≡ place_of half q.size
place_eta First q at = ap (λ a. let r : Place = record { size = q.size; at = a } in r) at
place_eta Second q at = ap (λ a. let r : Place = record { size = q.size; at = a } in r) at

-- the key of a first copy, and of a second
pub key_first : (q : Place) → q.at ≡ 0 → place_key q ≡ 1 ∷ q.size ∷ []
key_first q at = ap (λ a. (if a == 0 then 1 else 2) ∷ q.size ∷ []) at

eqb-not : (n : ℕ) → n ≢ 0 → (n == 0) ≡ false
eqb-not n other = elim (cases_Bool (n == 0)) [ inl is ↦ absurd (other (eqb-true n 0 is)) | inr differs ↦ differs ]

pub key_second : (q : Place) → q.at ≢ 0 → place_key q ≡ 2 ∷ q.size ∷ []
key_second q other = ap (λ (b : Bool). (if b then 1 else 2) ∷ q.size ∷ []) (eqb-not q.at other)

pub place_not_after : (a b : Place) (xs ys : List ℕ) → place_key a ≡ xs → place_key b ≡ ys → NotAfter xs ys → NotAfter (place_key a) (place_key b)
place_not_after a b xs ys p q n = subst (λ (l : List ℕ). NotAfter l (place_key b)) (sym p) (subst (λ (l : List ℕ). NotAfter xs l) (sym q) n)

module _ (v : List ℕ) where
  whole_of : (which : Copies) (q : Place) → IsCandidate v which q → IsWholeAt v q
  whole_of which q x = record { is_place = x.is_place; faultless = x.faultless }

  -- a candidate is a first copy or a second one
  as_half : (which : Copies) (q : Place) → IsCandidate v which q
      → ((q.at ≡ 0) × IsWholeAt v (place_of First q.size)) ⊎ ((q.at ≢ 0) × IsWholeAt v (place_of Second q.size))
  as_half which q x = elim x.is_place.first_or_second [
    | inl zero ↦ inl (zero, subst (IsWholeAt v) (place_eta First q zero) (whole_of which q x))
    | inr size ↦ (
        let large = listed_at_least q.size x.is_place.listed in
        inr ((λ e. omega (arith, e, size, large)), subst (IsWholeAt v) (place_eta Second q size) (whole_of which q x)))
  ]

  first_at : (c : Candidate) → IsLeastOf v First c → c.place.at ≡ 0
  first_at c x = ap (λ (q : Place). q.at) x.is

  second_at : (c : Candidate) → IsLeastOf v Second c → c.place.at ≢ 0
  second_at c x e =
      let at : c.place.at ≡ c.place.size = ap (λ (q : Place). q.at) x.is in
      let large = listed_at_least c.place.size x.whole.is_place.listed in
      omega (arith, e, at, large)

  -- no copy of this half of a lesser size is whole
  abbrev NoneLess : Half → ℕ → Type 0
  NoneLess half size = (p : ℕ) → IsListed p → IsWholeAt v (place_of half p) → size ≤ p

  -- then no candidate comes before the first copy of this size
  first_least_of : (q : Place) → q.at ≡ 0 → NoneLess First q.size → (g : Place) → IsCandidate v ask.Any g → NotAfter (place_key q) (place_key g)
  first_least_of q zero least g is = elim (as_half ask.Any g is) [
    | inl first ↦ (
        let le = least g.size is.is_place.listed first.1 in
        place_not_after q g (1 ∷ q.size ∷ []) (1 ∷ g.size ∷ []) (key_first q zero) (key_first g first.0)
        (omega arith, λ e. (omega (arith, le), λ f. tt)))
    | inr second ↦
        place_not_after q g (1 ∷ q.size ∷ []) (2 ∷ g.size ∷ []) (key_first q zero) (key_second g second.0)
        (omega arith, λ e. absurd (omega (arith, e)))
  ]

  -- nor before the second copy, where no first copy is one
  second_least_of : (which : Copies) (q : Place) → q.at ≢ 0 → NoneLess Second q.size
      → ((g : Place) → IsCandidate v which g → g.at ≡ 0 → ⊥) → (g : Place) → IsCandidate v which g → NotAfter (place_key q) (place_key g)
  second_least_of which q other least none g is = elim (as_half which g is) [
    | inl first ↦ absurd (none g is first.0)
    | inr second ↦ (
        let le = least g.size is.is_place.listed second.1 in
        place_not_after q g (2 ∷ q.size ∷ []) (2 ∷ g.size ∷ []) (key_second q other) (key_second g second.0)
        (omega arith, λ e. (omega (arith, le), λ f. tt)))
  ]

  pub first_taken : (c : Candidate) → IsLeastOf v First c → FindsFirst v ask.Any (Some c)
  first_taken c x = (
    (
      record { is_place = x.whole.is_place; asked = tt; faultless = x.whole.faultless },
      first_least_of c.place (first_at c x) x.least,
    ),
    x.read,
  )

  second_least : (which : Copies) (c : Candidate) → IsLeastOf v Second c
      → ((g : Place) → IsCandidate v which g → g.at ≡ 0 → ⊥) → (g : Place) → IsCandidate v which g → NotAfter (place_key c.place) (place_key g)
  second_least which c x none g is = second_least_of which c.place (second_at c x) x.least none g is

  -- only second copies are asked for
  pub second_found : (found : Option Candidate) → FindsHalf v Second found → FindsFirst v ask.Second found
  second_found None none = λ (q : Place) is. elim (as_half ask.Second q is) [
    | inl first ↦ absurd (is.asked first.0)
    | inr second ↦ none q.size is.is_place.listed second.1
  ]
  second_found (Some c) x = (
    (
      record { is_place = x.whole.is_place; asked = second_at c x; faultless = x.whole.faultless },
      second_least ask.Second c x (λ g is zero. is.asked zero),
    ),
    x.read,
  )

  -- no first copy is whole
  pub second_after : (found : Option Candidate) → FindsHalf v First None → FindsHalf v Second found → FindsFirst v ask.Any found
  second_after None before none = λ (q : Place) is. elim (as_half ask.Any q is) [
    | inl first ↦ before q.size is.is_place.listed first.1
    | inr second ↦ none q.size is.is_place.listed second.1
  ]
  second_after (Some c) before x = (
    (
      record { is_place = x.whole.is_place; asked = tt; faultless = x.whole.faultless },
      second_least ask.Any c x (λ (g : Place) is zero. before g.size is.is_place.listed (subst (IsWholeAt v) (place_eta First g zero) (whole_of ask.Any g is))),
    ),
    x.read,
  )

  -- ---- where the search was broken off

  second_apart : (size : ℕ) → IsBegunOf v Second size → size ≢ 0
  second_apart size x e = let large = listed_at_least size x.begun.is_place.listed in omega (arith, e, large)

  broken_first : (size : ℕ) → IsBegunOf v First size → HasToBeRead v ask.Any (place_of First size)
  broken_first size x = record { begun = x.begun; asked = tt; none_before = first_least_of (place_of First size) refl x.least }

  broken_second : (size : ℕ) → IsBegunOf v Second size → HasToBeRead v ask.Second (place_of Second size)
  broken_second size x = record {
    begun = x.begun;
    asked = second_apart size x;
    none_before = second_least_of ask.Second (place_of Second size) (second_apart size x) x.least (λ g is zero. is.asked zero);
  }

  broken_after : FindsHalf v First None → (size : ℕ) → IsBegunOf v Second size → HasToBeRead v ask.Any (place_of Second size)
  broken_after before size x = record {
    begun = x.begun;
    asked = tt;
    none_before = second_least_of ask.Any (place_of Second size) (second_apart size x) x.least
        (λ (g : Place) is zero. before g.size is.is_place.listed (subst (IsWholeAt v) (place_eta First g zero) (whole_of ask.Any g is)));
  }

  abbrev pub SomeBegun : Half → Type 0
  SomeBegun half = (size : ℕ) × IsBegunOf v half size

  abbrev pub SomeToBeRead : Copies → Type 0
  SomeToBeRead which = (place : Place) × HasToBeRead v which place

  pub first_broken : (f : RebuildFault) → BreaksHalf v First f → BreaksFirst v ask.Any f
  first_broken f x = memory_so (SomeBegun First) (SomeToBeRead ask.Any) (λ s. (place_of First s.0, broken_first s.0 s.1)) f x

  pub second_broken : (f : RebuildFault) → BreaksHalf v Second f → BreaksFirst v ask.Second f
  second_broken f x = memory_so (SomeBegun Second) (SomeToBeRead ask.Second) (λ s. (place_of Second s.0, broken_second s.0 s.1)) f x

  pub after_broken : FindsHalf v First None → (f : RebuildFault) → BreaksHalf v Second f → BreaksFirst v ask.Any f
  after_broken before f x = memory_so (SomeBegun Second) (SomeToBeRead ask.Any) (λ s. (place_of Second s.0, broken_after before s.0 s.1)) f x

  -- of the result of the last search
  pub broken_so : {A : Type 0} (r : Result A RebuildFault) (X Y : RebuildFault → Type 0) → ((f : RebuildFault) → X f → Y f) → IfErr r X → IfErr r Y
  broken_so (Ok a) X Y so x = tt
  broken_so (Err f) X Y so x = so f x

  -- of what the search for second copies answers
  pub second_result : {F : Type 0} (r : Result (Option Candidate) F) → IfOk r (FindsHalf v Second) → IfOk r (FindsFirst v ask.Second)
  second_result (Ok found) x = second_found found x
  second_result (Err f) x = tt

  pub after_result : {F : Type 0} (r : Result (Option Candidate) F) → FindsHalf v First None → IfOk r (FindsHalf v Second) → IfOk r (FindsFirst v ask.Any)
  after_result (Ok found) before x = second_after found before x
  after_result (Err f) before x = tt
