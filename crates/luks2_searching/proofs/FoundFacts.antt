-- What is found in one area is found in the volume.
use Rattle.std.proofs.Common.{◌≡◌, ℕ, ◌+◌, ◌-◌, List, Option, length, inl, inr, sym, ap, subst, ◌∙◌, arith}
use Rattle.luks2_header.specs.Sizes.{IsListed}
use Rattle.luks2_header.proofs.CopyFacts.{listed_at_least}
use Rattle.luks_rebuilding.specs.Candidates.{IsBegun, IsPlace}
use Rattle.luks_rebuilding.specs.declared.place.Place.{Place}
use Rattle.luks_piecing.specs.declared.given.GivenSegment.{GivenSegment}
use Rattle.luks_slot.specs.declared.allowed.Allowed.{Allowed}
use Rattle.luks_trials.specs.Metadata.{OpensAt}
use Rattle.luks2_searching.specs.Found.{area_of, first_place, second_place, HasNone2, HasNoneBy, HasNoneTurned, IsChanged2, IsFoundIn, IsFoundMixed, IsFoundNear, IsNear2, IsOfBoth, IsThere}
use Rattle.luks2_searching.specs.declared.found.Change2.{Change2}
use Rattle.luks2_searching.specs.declared.found.Change2.TheVariants as change
use Rattle.luks2_searching.specs.declared.found.Found2.{Found2}
use Rattle.luks2_searching.specs.declared.searching.Step.TheVariants as step

near_changed : (v : List ℕ) (given : Option GivenSegment) (place : Place) (n : ℕ) (c : Change2) (new : List ℕ) → IsNear2 (area_of v place) n c new
    → IsChanged2 v given place n c new
near_changed v given place n change.Nothing new x = x
near_changed v given place n (change.Bit at bit) new x = x
near_changed v given place n (change.Digest bits) new x = x
near_changed v given place n change.Mixed new x = absurd x
near_changed v given place n (change.Fragments keyslot digest segment) new x = absurd x

-- what is at its place is as long as its area
pub there_in : (total : ℕ) (place : Place) (json : List ℕ) (f : Found2) → IsPlace total place → length json ≡ place.size - 4096 → IsThere place json f
    → IsPlace total f.place × (4096 + length f.json.items ≡ f.place.size)
there_in total place json f inside long x =
    let own : f.place.size ≡ place.size = ap (λ (q : Place). q.size) x.at in
    let same = x.long in
    let large = listed_at_least place.size inside.listed in
    (subst (λ q. IsPlace total q) (sym x.at) inside, omega (arith, own, same, long, large))

pub found_in : (allowed : Allowed) (v p : List ℕ) (place : Place) (json : List ℕ) (f : Found2) → IsPlace (length v) place → length json ≡ place.size - 4096
    → json ≡ area_of v place → IsThere place json f → IsFoundIn allowed v p json f → IsFoundNear allowed v p f
found_in allowed v p place json f inside long read there x = λ given.
    let both = there_in (length v) place json f inside long there in
    record {
      place = both.0;
      long = both.1;
      changed = near_changed v given f.place f.slot f.change f.json.items (subst (λ j. IsNear2 j f.slot f.change f.json.items) (read ∙ ap (area_of v) (sym there.at)) x.changed);
      opens = x.opens;
    }

pub found_mixed : (allowed : Allowed) (v p : List ℕ) (size : ℕ) (first second : List ℕ) (f : Found2) → IsPlace (length v) (first_place size)
    → IsPlace (length v) (second_place size) → length first ≡ size - 4096 → first ≡ area_of v (first_place size) → second ≡ area_of v (second_place size)
    → IsThere (first_place size) first f → IsFoundMixed allowed v p first second f → IsFoundNear allowed v p f
found_mixed allowed v p size first second f here behind long one two there x = λ given.
    let own : f.place.size ≡ size = ap (λ (q : Place). q.size) there.at in
    let both = there_in (length v) (first_place size) first f here long there in
    record {
      place = both.0;
      long = both.1;
      changed = subst (λ c. IsChanged2 v given f.place f.slot c f.json.items) (sym x.changed) (record {
        first = there.at ∙ ap first_place (sym own);
        second = subst (λ n. IsPlace (length v) (second_place n)) (sym own) behind;
        composed = subst (λ n. IsOfBoth (area_of v (first_place n)) (area_of v (second_place n)) f.json.items) (sym own)
            (subst (λ j. IsOfBoth j (area_of v (second_place size)) f.json.items) one (subst (λ j. IsOfBoth first j f.json.items) two x.composed));
      });
      opens = x.opens;
    }

-- a place is that of a first or of a second copy
place_cases : (P : Place → Type 0) (total : ℕ) (place : Place) → IsPlace total place → (IsListed place.size → P (first_place place.size))
    → (IsListed place.size → P (second_place place.size)) → P place
place_cases P total place is first second = elim is.first_or_second [
  | inl zero ↦ subst (λ (a : ℕ). P (record { size = place.size; at = a })) (sym zero) (first is.listed)
  | inr own ↦ subst (λ (a : ℕ). P (record { size = place.size; at = a })) (sym own) (second is.listed)
]

pub none_of_steps : (allowed : Allowed) (v p : List ℕ) → ((size : ℕ) → IsListed size → HasNoneBy allowed v p step.Standing size)
    → ((size : ℕ) → IsListed size → HasNoneBy allowed v p step.Mixed size) → ((size : ℕ) → IsListed size → HasNoneBy allowed v p step.Bits size) → HasNone2 allowed v p
none_of_steps allowed v p standing mixed bits =
    let stands : (place : Place) → IsBegun v place → (n : ℕ) → OpensAt allowed v p (area_of v place) n → ⊥ =
    λ place begun. place_cases (λ q. IsBegun v q → (n : ℕ) → OpensAt allowed v p (area_of v q) n → ⊥) (length v) place begun.is_place
    (λ listed. (standing place.size listed).0) (λ listed. (standing place.size listed).1) begun in
    record {
      standing = stands;
      turned = λ place at bit begun few below low n x. stands place begun n (
          place_cases (λ q. HasNoneTurned allowed v p q) (length v) place begun.is_place (λ listed. (bits place.size listed).0) (λ listed. (bits place.size listed).1)
          begun few at bit below low n x);
      mixed = λ size new one two both n x. stands (first_place size) one n (mixed size one.is_place.listed one two new both n x);
    }
