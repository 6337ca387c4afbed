-- A JSON area by its first zero byte.
use Rattle.std.proofs.Common.{◌≡◌, ◌≢◌, ℕ, zero, suc, ◌+◌, ◌-◌, ◌<◌, ◌≤◌, List, [], ◌∷◌, ◌++◌, length, get_or, take, drop, refl, sym, ap, ◌∙◌, inl, inr, arith, length-append, length-drop}
use Rattle.std.proofs.Math.ListN.{replicate, get_or-append}
use Rattle.std.proofs.Math.Nat.{eq-or-lt_of_le}
use Rattle.std.proofs.Math.Seq.{get_or-append_right, drop-append_seam}
use Rattle.std.proofs.lemmas.Bool.{cases_lt}
use Rattle.std.proofs.lemmas.List.{take-append-drop, get_or-take, get_or-replicate, length-replicate, length-take-le, take_all, take_at}
use Rattle.std.proofs.lemmas.List.Elements.{All-get_or, All-from_get_or, All-head, All-tail, All-same, All-replicate}
use Rattle.std.specs.List.{All}
use Rattle.luks_json.specs.AreaText.{JsonText}

zeros_are : (xs : List ℕ) → All (λ c. c ≡ 0) xs → xs ≡ replicate (length xs) 0
zeros_are [] h = refl
zeros_are (x ∷ xs) h =
    let here : x ≡ 0 = All-head (λ c. c ≡ 0) x xs h in
    rw here (ap (λ ys. 0 ∷ ys) (zeros_are xs (All-tail (λ c. c ≡ 0) x xs h)))

first_of_take : (xs : List ℕ) (n : ℕ) → 0 < length xs → 0 < n → get_or xs 0 0 ≡ 123 → take n xs ≡ 123 ∷ drop 1 (take n xs)
first_of_take [] n few some first = absurd (omega arith)
first_of_take (x ∷ xs) zero few some first = absurd (omega arith)
first_of_take (x ∷ xs) (suc n) few some first = ap (λ y. y ∷ take n xs) first

not_first : (area : List ℕ) (e : ℕ) → get_or area 0 0 ≡ 123 → get_or area e 0 ≡ 0 → 0 < e
not_first area zero first found = absurd (omega arith)
not_first area (suc e) first found = omega arith

before_take : (xs : List ℕ) (n : ℕ) → n ≤ length xs → ((k : ℕ) → k < n → get_or xs k 0 ≡ 0 → ⊥) → All (λ c. c ≢ 0) (take n xs)
before_take xs n within before =
    All-from_get_or (λ c. c ≢ 0) (take n xs) 0
    (λ i lt. let small : i < n = omega (arith, length-take-le n xs within) in
    λ z. before i small (sym (get_or-take n xs i 0 small) ∙ z))

-- what the slice from e on is
rest_of : (area : List ℕ) (e : ℕ) → take (length area - e) (drop e area) ≡ drop e area
rest_of area e = take_all (length area - e) (drop e area) (omega (arith, length-drop e area))

pub is_text : (area : List ℕ) (e : ℕ) → 0 < length area → get_or area 0 0 ≡ 123 → e < length area → ((k : ℕ) → k < e → get_or area k 0 ≡ 0 → ⊥)
    → get_or area e 0 ≡ 0 → All (λ c. c ≡ 0) (take (length area - e) (drop e area)) → JsonText area (take e area)
is_text area e some first within before found zeros = record {
  rest = drop 1 (take e area);
  begins = first_of_take area e some (not_first area e first found) first;
  whole = before_take area e (omega arith) before;
  zeros = length (drop e area);
  ended = omega (arith, length-drop e area);
  filled = sym (take-append-drop e area) ∙ ap (λ ys. take e area ++ ys) (zeros_are (drop e area) (All-same (λ c. c ≡ 0) _ _ (sym (rest_of area e)) zeros));
}

pub begins : (area text : List ℕ) → JsonText area text → (0 < length area) × (get_or area 0 0 ≡ 123)
begins area text j = rw (j.filled, j.begins) (omega arith, refl)

area_length : (area text : List ℕ) (j : JsonText area text) → length area ≡ length text + j.zeros
area_length area text j =
    ap length j.filled ∙ (length-append text (replicate j.zeros 0) ∙ ap (λ n. length text + n) (length-replicate j.zeros 0))

end_is : (area text : List ℕ) (e : ℕ) → JsonText area text → e ≤ length area → ((k : ℕ) → k < e → get_or area k 0 ≡ 0 → ⊥)
    → (e < length area → get_or area e 0 ≡ 0) → e ≡ length text
end_is area text e j within before found =
    elim (cases_lt e (length text)) [
      | inl lt ↦
          let inside : e < length area = omega (arith, area_length area text j) in
          absurd (All-get_or (λ c. c ≢ 0) text e 0 lt j.whole
          (sym (get_or-append text (replicate j.zeros 0) 0 e lt) ∙ (sym (ap (λ a. get_or a e 0) j.filled) ∙ found inside)))
      | inr ge ↦ elim (eq-or-lt_of_le ge) [
        | inl same ↦ sym same
        | inr above ↦ absurd (before (length text) above
            (ap (λ a. get_or a (length text) 0) j.filled
            ∙ (get_or-append_right text (replicate j.zeros 0) (length text) 0 (omega arith)
            ∙ get_or-replicate j.zeros (length text - length text) 0 0 (omega (arith, j.ended)))))
      ]
    ]

pub ends : (area text : List ℕ) (e : ℕ) → JsonText area text → e ≤ length area → ((k : ℕ) → k < e → get_or area k 0 ≡ 0 → ⊥)
    → (e < length area → get_or area e 0 ≡ 0) → (e < length area) × All (λ c. c ≡ 0) (take (length area - e) (drop e area))
ends area text e j within before found =
    let same : e ≡ length text = end_is area text e j within before found in
    let left : drop e area ≡ replicate j.zeros 0 = rw same (ap (drop (length text)) j.filled ∙ drop-append_seam text (replicate j.zeros 0)) in
    (omega (arith, area_length area text j, j.ended), All-same (λ c. c ≡ 0) _ _ (rest_of area e ∙ left) (All-replicate (λ c. c ≡ 0) j.zeros 0 refl))

prefix_is : (area text : List ℕ) (j : JsonText area text) → take (length text) area ≡ text
prefix_is area text j = ap (take (length text)) j.filled ∙ take_at text (replicate j.zeros 0) (length text) refl

-- an area has one text
pub one_text : (area s t : List ℕ) → JsonText area s → JsonText area t → s ≡ t
one_text area s t j k =
    let same : length s ≡ length t =
    end_is area t (length s) k (omega (arith, area_length area s j))
    (λ i lt z. All-get_or (λ c. c ≢ 0) s i 0 lt j.whole (sym (get_or-append s (replicate j.zeros 0) 0 i lt) ∙ (sym (ap (λ a. get_or a i 0) j.filled) ∙ z)))
    (λ lt. ap (λ a. get_or a (length s) 0) j.filled
    ∙ (get_or-append_right s (replicate j.zeros 0) (length s) 0 (omega arith)
    ∙ get_or-replicate j.zeros (length s - length s) 0 0 (omega (arith, j.ended)))) in
    sym (prefix_is area s j) ∙ (ap (λ n. take n area) same ∙ prefix_is area t k)
