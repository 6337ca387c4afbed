-- The search for a second copy through ascending places.
use Rattle.std.proofs.Common.{◌≡◌, ℕ, ◌-◌, ◌≤◌, ◌==◌, ◌&&◌, nat_le, List, [], ◌∷◌, length, take, drop, get_or, Bool, true, inl, inr, arith, refl, sym, ◌∙◌, subst}
use Rattle.std.specs.List.{list_all}
use Rattle.std.proofs.lemmas.Bool.{or_cases, or_left, or_right, and_parts, eqb-true, eq-eqb, leb-true, false≢true}
use Rattle.std.proofs.lemmas.List.{take_rest}
use Rattle.luks2_header.specs.Header2.{IsSound}
use Rattle.luks2_header.specs.SoundCopies.{IsSoundCopy, IsLeastCopy}
use Rattle.luks2_header.specs.Sizes.{is_among, IsListed}
use Rattle.luks2_header.specs.declared.bin2.Bin2.{Bin2}
use Rattle.luks2_header.proofs.CopyFacts.{among_pass}

-- ascending numbers
abbrev pub is_rising : List ℕ → Bool
is_rising [] = true
is_rising (x ∷ xs) = list_all (λ y. nat_le x y) xs && is_rising xs

-- the numbers after the first
abbrev pub later : List ℕ → List ℕ
later xs = take (length xs - 1) (drop 1 xs)

later_is : (x : ℕ) (xs : List ℕ) → later (x ∷ xs) ≡ xs
later_is x xs = take_rest (x ∷ xs) 1

pub rising_later : (xs : List ℕ) → is_rising xs ≡ true → is_rising (later xs) ≡ true
rising_later [] rising = refl
rising_later (x ∷ xs) rising = rw (later_is x xs) ((and_parts _ (is_rising xs) rising).1)

pub among_all : (xs : List ℕ) (p : ℕ) → is_among p (later xs) ≡ true → is_among p xs ≡ true
among_all [] p among = among
among_all (x ∷ xs) p among = or_right (x == p) (is_among p xs) (rw (later_is x xs) at among)

-- the first of ascending numbers is the least
first_least : (xs : List ℕ) (p : ℕ) → is_rising xs ≡ true → is_among p xs ≡ true → get_or xs 0 0 ≤ p
first_least [] p rising among = absurd (false≢true among)
first_least (x ∷ xs) p rising among =
    elim (or_cases (x == p) (is_among p xs) among) [
      | inl here ↦ (let same : x ≡ p = eqb-true x p here in omega arith)
      | inr after ↦ leb-true x p (among_pass (λ y. nat_le x y) xs p ((and_parts _ _ rising).0) after)
    ]

first_among : (xs : List ℕ) → 1 ≤ length xs → is_among (get_or xs 0 0) xs ≡ true
first_among [] some = absurd (omega arith)
first_among (x ∷ xs) some = or_left (x == x) (is_among x xs) (eq-eqb x x refl)

-- where the first place has no sound copy, a sound one is at a later place
pub sound_later : (v : List ℕ) (xs : List ℕ) (p : ℕ) → (IsSound v (get_or xs 0 0) → ⊥) → IsSound v p → is_among p xs ≡ true → is_among p (later xs) ≡ true
sound_later v [] p unsound sound among = among
sound_later v (x ∷ xs) p unsound sound among =
    elim (or_cases (x == p) (is_among p xs) among) [
      | inl here ↦ (let same : x ≡ p = eqb-true x p here in absurd (unsound (rw same sound)))
      | inr after ↦ rw (later_is x xs) after
    ]

-- without a place to come there is no sound copy
pub none_left : (xs : List ℕ) (p : ℕ) → length xs ≤ 0 → is_among p xs ≡ true → ⊥
none_left [] p none among = false≢true among
none_left (x ∷ xs) p none among = omega arith

-- the sound copy at the first of the places to come is the least
pub least_copy : (v xs : List ℕ) (h : Bin2) → 1 ≤ length xs → is_rising xs ≡ true
    → ((p : ℕ) → is_among p xs ≡ true → IsListed p)
    → ((p : ℕ) → IsListed p → IsSound v p → is_among p xs ≡ true)
    → IsSoundCopy v (get_or xs 0 0) h → IsLeastCopy v h
least_copy v xs h some rising listed left copy =
    let place : h.hdr_offset ≡ get_or xs 0 0 = sym copy.fields.hdr_offset ∙ copy.sound.form.offset in
    let C : ℕ → Type 0 = λ n. IsSoundCopy v n h in
    record {
      listed = rw place (listed (get_or xs 0 0) (first_among xs some));
      copy = subst C (sym place) copy;
      least = λ p is_listed sound. rw place (first_least xs p rising (left p is_listed sound));
    }
