-- What the decoder answers, beside the encoding.
use Rattle.std.proofs.Common.{◌≡◌, ℕ, zero, suc, ◌∷◌, ◌+◌, ◌<◌, ◌≤◌, Bool, true, false, cond, List, [], length, Ok, Err, Option, Some, None, nat_lt, nat_le, refl, sym, ap, ◌∙◌, inl, inr, arith, length-append}
use Rattle.std.proofs.lemmas.Bool.{and_parts, and_from, leb-true, le-leb, lt-leb, cases_lt, ltb-true, lt-ltb}
use Rattle.std.proofs.lemmas.List.{length-replicate}
use Rattle.std.proofs.lemmas.Slice.Eq.{bytes_eq-Decides}
use Rattle.std.proofs.Math.ListN.{replicate}
use Rattle.std.specs.List.{list_all}
use Rattle.base64.specs.Engines.{standard}
use Rattle.base64.specs.GeneralPurpose.{IsBytes, decode_of, decoded_bytes_of}
use Rattle.base64.specs.Rfc4648.{encode, encode_symbols, padding_len, unpadded_len}
use Rattle.base64.specs.declared.decode.DecodeError.{DecodeError}
use Rattle.base64.specs.declared.engine.DecodePaddingMode.TheVariants.{RequireCanonical}
use Rattle.base64.proofs.EngineFacts.{decode_of-encode_of, decode_of_strict}
use Rattle.base64.proofs.RoundTrip.{decode-encode, length-encode_symbols}
use Rattle.luks_json.specs.Encoded.{alphabet, IsBase64, encoded_of}

some_if : (b : Bool) (x y : List ℕ) → cond b (Some x) None ≡ Some y → (b ≡ true) × (x ≡ y)
some_if true x y e = (refl, cc)
some_if false x y e = absurd (cc)

all_bytes : (xs : List ℕ) → list_all (λ c. nat_lt c 256) xs ≡ true → IsBytes xs
all_bytes [] h i = omega arith
all_bytes (x ∷ xs) h zero = ltb-true x 256 (and_parts _ _ h).0
all_bytes (x ∷ xs) h (suc i) = all_bytes xs (and_parts _ _ h).1 i

bytes_all : (xs : List ℕ) → IsBytes xs → list_all (λ c. nat_lt c 256) xs ≡ true
bytes_all [] h = refl
bytes_all (x ∷ xs) h = and_from _ _ (lt-ltb x 256 (h 0)) (bytes_all xs (λ i. h (suc i)))

pub encoded_says : (text bytes : List ℕ) → encoded_of text ≡ Some bytes → IsBase64 text bytes
unfolding encoded_of
encoded_says text bytes e =
    let parts = some_if _ _ bytes e in
    let tests = and_parts _ _ parts.0 in
    let first = and_parts _ _ tests.0 in
    rw (← parts.1) record {
      are_bytes = all_bytes _ first.1;
      at_most = leb-true _ 128 tests.1;
      encodes = (bytes_eq-Decides text _).0 first.0;
    }

bytes_are : (text bytes : List ℕ) → IsBase64 text bytes → decoded_bytes_of standard text ≡ bytes
bytes_are text bytes b =
    ap (decoded_bytes_of standard) b.encodes ∙ (decode-encode standard.encode_table standard.decode_table bytes 61 false RequireCanonical true standard.tables b.are_bytes refl).1

pub encoded_told : (text bytes : List ℕ) → IsBase64 text bytes → encoded_of text ≡ Some bytes
unfolding encoded_of
encoded_told text bytes b =
    let all = and_from _ _ (and_from _ _ ((bytes_eq-Decides text (encode alphabet 61 true bytes)).1 b.encodes) (bytes_all bytes b.are_bytes)) (le-leb (length bytes) 128 b.at_most) in
    rw (bytes_are text bytes b) (rw all refl)

none_else : (o : Option (List ℕ)) → ((x : List ℕ) → o ≡ Some x → ⊥) → None ≡ o
none_else None h = refl
none_else (Some x) h = absurd (h x refl)

length_is : (bytes : List ℕ) → length (encode alphabet 61 true bytes) ≡ unpadded_len (length bytes) + padding_len (length bytes)
length_is bytes =
    length-append (encode_symbols alphabet bytes) (replicate (padding_len (length bytes)) 61)
    ∙ omega (arith, length-encode_symbols alphabet bytes, length-replicate {A = ℕ} (padding_len (length bytes)) 61)

pub too_long : (text : List ℕ) → 172 < length text → None ≡ encoded_of text
too_long text long = none_else (encoded_of text) (λ bytes is.
    let b = encoded_says text bytes is in
    let n : length bytes ≤ 128 = b.at_most in
    omega (arith, ap length b.encodes, length_is bytes))

pub refused : (text : List ℕ) (e : DecodeError) → decode_of standard text ≡ Err e → None ≡ encoded_of text
refused text e err = none_else (encoded_of text) (λ bytes is.
    let b = encoded_says text bytes is in
    let ok : decode_of standard text ≡ Ok bytes = ap (decode_of standard) b.encodes ∙ decode_of-encode_of standard bytes refl b.are_bytes in
    cc)

too_many : (text bytes : List ℕ) → decode_of standard text ≡ Ok bytes → 128 < length bytes → None ≡ encoded_of text
too_many text bytes ok many = none_else (encoded_of text) (λ other is.
    let b = encoded_says text other is in
    let told : decode_of standard text ≡ Ok other = ap (decode_of standard) b.encodes ∙ decode_of-encode_of standard other refl b.are_bytes in
    let same : bytes ≡ other = cc in
    let n : length other ≤ 128 = b.at_most in
    omega (arith, ap length same))

-- what is kept of the decoded bytes
pub kept : (text bytes : List ℕ) (o : Option (List ℕ)) → IsBytes text → IsBytes bytes → decode_of standard text ≡ Ok bytes
    → o ≡ cond (nat_le (length bytes) 128) (Some bytes) None → o ≡ encoded_of text
kept text bytes o own are ok is = elim (cases_lt 128 (length bytes)) [
  | inl many ↦ is ∙ rw (lt-leb (length bytes) 128 many) (too_many text bytes ok many)
  | inr few ↦ is ∙ rw (le-leb (length bytes) 128 few)
      (sym (encoded_told text bytes record { are_bytes = are; at_most = few; encodes = decode_of_strict standard text bytes (refl, refl) own ok }))
]
