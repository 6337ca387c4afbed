-- Facts on buffers.
use Rattle.std.proofs.Common.{◌≡◌, ℕ, ◌+◌, ◌-◌, ◌≤◌, List, ◌++◌, inl, inr, length, take, drop, min, sym, ap, ◌∙◌, arith, append_assoc, length-append, length-drop, length-take}
use Rattle.std.proofs.lemmas.List.{drop-append-le, drop_all, length-take-le, take-append-drop, take_all}
use Rattle.std.proofs.Math.Seq.{drop-append_seam}
use Rattle.std.proofs.lemmas.Bool.{cases_lt}
use Rattle.luks_area.specs.Ranges.{written}
use Rattle.luks_c_answers.specs.Buffers.{filled}

-- so is what follows the bytes, fit they or not
pub filled_behind : (buffer bytes : List ℕ) → drop (length bytes) (filled buffer bytes) ≡ drop (length bytes) buffer
filled_behind buffer bytes = elim (cases_lt (length buffer) (length bytes)) [
  | inl long ↦
      let front : List ℕ = take (length buffer) bytes in
      let rest : List ℕ = drop (length bytes) buffer in
      let all : length (front ++ rest) ≡ length front + length rest = length-append front rest in
      let taken : length front ≡ min (length buffer) (length bytes) = length-take (length buffer) bytes in
      let behind : length rest ≡ length buffer - length bytes = length-drop (length bytes) buffer in
      drop_all (length bytes) (front ++ rest) (omega (arith, long, all, taken, behind)) ∙ sym (drop_all (length bytes) buffer (omega (arith, long)))
  | inr short ↦
      let rest : List ℕ = drop (length bytes) buffer in
      ap (λ front. drop (length bytes) (front ++ rest)) (take_all (length buffer) bytes short)
      ∙ drop-append-le (length bytes) bytes rest (omega arith)
      ∙ ap (λ front. front ++ rest) (drop_all (length bytes) bytes (omega arith))
]

-- the last of the bytes written to their place, and then the others to the front, are all written to the front
pub written-last_first : (v xs : List ℕ) (n : ℕ) → n ≤ length xs → length xs ≤ length v → written (written v n (drop n xs)) 0 (take n xs) ≡ written v 0 xs
written-last_first v xs n low high =
    let front : List ℕ = take n xs in
    let last : List ℕ = drop n xs in
    let behind : List ℕ = drop (n + length last) v in
    let w : List ℕ = written v n last in
    let short : length front ≡ n = length-take-le n xs low in
    let long : length last ≡ length xs - n = length-drop n xs in
    let before : length (take n v) ≡ n = length-take-le n v (omega (arith, low, high)) in
    let rest : drop n w ≡ last ++ behind = ap (drop n) (append_assoc (take n v) last behind) ∙ ap (λ k. drop k (take n v ++ (last ++ behind))) (sym before)
    ∙ drop-append_seam (take n v) (last ++ behind) in
    ap (λ k. front ++ drop k w) (omega (arith, short))
    ∙ ap (λ l. front ++ l) rest
    ∙ sym (append_assoc front last behind)
    ∙ ap (λ l. l ++ behind) (take-append-drop n xs)
    ∙ ap (λ k. xs ++ drop k v) (omega (arith, long, low))
