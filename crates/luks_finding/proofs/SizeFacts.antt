-- The search for metadata through ascending sizes.
use Rattle.std.proofs.Common.{◌≡◌, ℕ, ◌<◌, ◌⊎◌, ◌==◌, List, [], ◌∷◌, get_or, true, inl, inr, sym, subst, arith}
use Rattle.std.proofs.lemmas.Bool.{or_cases, eqb-true}
use Rattle.luks2_header.specs.Sizes.{is_among}
use Rattle.luks2_header.proofs.SecondCopyFacts.{later}
use Rattle.std.proofs.lemmas.List.{take_rest}
use Rattle.luks_rebuilding.specs.declared.place.Place.{Place}
use Rattle.luks_finding.specs.Starts.{HasMetadata}
use Rattle.luks_finding.specs.Telling.{HasMetadataOf, HasNearerMetadata}

-- where it isn't of the first, it is of a later one
pub among-later : (P : ℕ → Type 0) (xs : List ℕ) (p : ℕ) → (P (get_or xs 0 0) → ⊥) → P p → is_among p xs ≡ true → is_among p (later xs) ≡ true
among-later P [] p none has among = among
among-later P (x ∷ xs) p none has among =
    elim (or_cases (x == p) (is_among p xs) among) [
      | inl here ↦ (let same : x ≡ p = eqb-true x p here in absurd (none (subst P (sym same) has)))
      | inr after ↦ subst (λ (l : List ℕ). is_among p l ≡ true) (sym (take_rest (x ∷ xs) 1)) after
    ]

-- a copy with metadata nearer to the start is of some size
pub nearer-of : (v : List ℕ) (s size : ℕ) (has : HasNearerMetadata v s size) → HasMetadataOf v s has.copy.size size
nearer-of v s size has = of_place has.copy has.has.whole.is_place.first_or_second has.near has.has
  where
    of_place : (copy : Place) → (copy.at ≡ 0) ⊎ (copy.at ≡ copy.size) → copy.at < size → HasMetadata v s copy → HasMetadataOf v s copy.size size
    of_place copy (inl first) near has =
        let P : ℕ → Type 0 = λ at. HasMetadata v s (record { size = copy.size; at = at }) in
        inl (subst P first has)
    of_place copy (inr second) near has =
        let P : ℕ → Type 0 = λ at. HasMetadata v s (record { size = copy.size; at = at }) in
        inr (omega (arith, second, near), subst P second has)
