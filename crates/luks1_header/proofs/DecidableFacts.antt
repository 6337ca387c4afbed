-- What isn't false, of facts that can be decided.
use Rattle.std.proofs.Common.{◌≡◌, ◌⊎◌, ℕ, zero, suc, ◌<◌, List, [], ◌∷◌, length, slice_index, Bool, true, true≢false, inl, inr, arith, refl, sym, ◌∙◌, ap}
use Rattle.std.proofs.lemmas.Bool.{cases_lt, cases_eq, cases_Bool}
use Rattle.luks1_header.specs.Bytes.{IsUuid, is_uuid_byte}

-- a fact that holds or not, and isn't false, holds
pub held : {P : Type 0} → P ⊎ (P → ⊥) → ((P → ⊥) → ⊥) → P
held either sound = elim either [ inl fits ↦ fits | inr fails ↦ absurd (sound fails) ]

-- two lists of bytes are the same or not
pub same_or_not : (xs ys : List ℕ) → (xs ≡ ys) ⊎ (xs ≡ ys → ⊥)
same_or_not [] [] = inl refl
same_or_not [] (y ∷ ys) = inr (λ e. cc)
same_or_not (x ∷ xs) [] = inr (λ e. cc)
same_or_not (x ∷ xs) (y ∷ ys) =
    elim (cases_eq x y) [
      | inl head ↦ elim (same_or_not xs ys) [ inl rest ↦ inl (cc) | inr other ↦ inr (λ e. other (cc)) ]
      | inr other ↦ inr (λ e. other (cc))
    ]

-- a test passes everywhere below n, or not
pub all_or_not : (test : ℕ → Bool) (n : ℕ)
    → ((k : ℕ) → k < n → test k ≡ true) ⊎ (((k : ℕ) → k < n → test k ≡ true) → ⊥)
all_or_not test zero = inl (λ k lt. absurd (omega arith))
all_or_not test (suc n) =
    elim (cases_Bool (test n)) [
      | inl here ↦ elim (all_or_not test n) [
        | inl below ↦ inl (λ k lt. elim (cases_lt k n) [
          | inl under ↦ below k under
          | inr over ↦ (let same : k ≡ n = omega arith in ap test same ∙ here)
        ])
        | inr not_below ↦ inr (λ every. not_below (λ k lt. every k (omega arith)))
      ]
      | inr fails ↦ inr (λ every. true≢false (sym (every n (omega arith)) ∙ fails))
    ]

-- a text is that of a uuid or not
pub uuid_or_not : (text : List ℕ) → IsUuid text ⊎ (IsUuid text → ⊥)
uuid_or_not text =
    elim (cases_eq (length text) 36) [
      | inl long ↦ elim (all_or_not (λ k. is_uuid_byte k (slice_index text k)) 36) [
        | inl every ↦ inl (record { long = long; digits = every })
        | inr not_every ↦ inr (λ u. not_every u.digits)
      ]
      | inr short ↦ inr (λ u. short u.long)
    ]
