-- What is at a place of a list behind the first.
use Rattle.std.proofs.Common.{◌≡◌, ◌≢◌, ℕ, zero, suc, ◌-◌, List, Option, Some, None, is_some, false, subst, arith, refl}
use Rattle.std.specs.List.{slice_get}
use Rattle.luks1_header.specs.Header1.{header_text, key_bytes_of}
use Rattle.luks1_header.specs.declared.fault.TextField.{TextField}
use Rattle.luks1_rebuilding.specs.Combinations.{tried_lengths, tried_texts, IsLengthAt, IsTextAt}

pub text_at : (h : List ℕ) (t : TextField) (given : Option (List ℕ)) (place : ℕ) (text : List ℕ) → (place ≡ 0 → ⊥) → given ≡ None
    → slice_get (tried_texts t) (place - 1) ≡ Some text → text ≢ header_text h t → IsTextAt h t given place (Some text)
text_at h t given zero text some none listed other = absurd (some refl)
text_at h t given (suc i) text some none listed other =
    let e : suc i - 1 ≡ i = omega arith in
    (none, subst (λ k. slice_get (tried_texts t) k ≡ Some text) e listed, other)

pub length_at : (h : List ℕ) (given : Option ℕ) (place len : ℕ) → (place ≡ 0 → ⊥) → given ≡ None
    → slice_get tried_lengths (place - 1) ≡ Some len → len ≢ key_bytes_of h → IsLengthAt h given place (Some len)
length_at h given zero len some none listed other = absurd (some refl)
length_at h given (suc i) len some none listed other =
    let e : suc i - 1 ≡ i = omega arith in
    (none, subst (λ k. slice_get tried_lengths k ≡ Some len) e listed, other)

-- what isn't some is none
pub none_of : {A : Type 0} (o : Option A) → is_some o ≡ false → o ≡ None
none_of None e = refl
none_of (Some x) e = absurd (cc)
