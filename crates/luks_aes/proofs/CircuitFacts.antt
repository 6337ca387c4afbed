-- What circuits of gates compute of a byte: one computation over all bytes.
use Rattle.std.proofs.Common.{◌≡◌, ℕ, ◌<◌, ◌/◌, ◌%◌, ◌^◌, ◌∙◌, sym, ap, ap₂, Bool, true, List, [], ◌∷◌, map, slice_index, eqb, arith, refl}
use Rattle.std.specs.Prelude.{⊤}
use Rattle.std.proofs.lemmas.Bool.{eqb-true}
use Rattle.luks_aes.specs.Field.{number_of_bits}
use Rattle.luks_aes.specs.Gates.{Gate, value_of, run, outcome}
use Rattle.luks_aes.proofs.TableFacts.{all_below, all_below-at}

-- the values, added to the wires in turn
abbrev pub after : List ℕ → List ℕ → List ℕ
after [] wires = wires
after (v ∷ vs) wires = after vs (v ∷ wires)

-- the values are what the gates give
abbrev pub Gives : List Gate → List ℕ → List ℕ → Type 0
Gives [] [] wires = ⊤
Gives [] (v ∷ vs) wires = ⊥
Gives (g ∷ gs) [] wires = ⊥
Gives (g ∷ gs) (v ∷ vs) wires = (v ≡ value_of g wires) × Gives gs vs (v ∷ wires)

-- the wires after gates that give these values
run_is : (gs : List Gate) (vs wires : List ℕ) → Gives gs vs wires → run gs wires ≡ after vs wires
run_is [] [] wires h = refl
run_is [] (v ∷ vs) wires h = absurd h
run_is (g ∷ gs) [] wires h = absurd h
run_is (g ∷ gs) (v ∷ vs) wires h = ap (λ (x : ℕ). run gs (x ∷ wires)) (sym h.0) ∙ run_is gs vs (v ∷ wires) h.1

-- what leaves a circuit whose gates give these values
pub outcome_is : (gs : List Gate) (ends vs wires : List ℕ) → Gives gs vs wires
    → map (slice_index (after vs wires)) ends ≡ outcome gs ends wires
outcome_is gs ends vs wires h = ap (λ (ws : List ℕ). map (slice_index ws) ends) (sym (run_is gs vs wires h))

-- eight bits
abbrev pub bits : (ℕ → ℕ) → List ℕ
bits f = f 0 ∷ f 1 ∷ f 2 ∷ f 3 ∷ f 4 ∷ f 5 ∷ f 6 ∷ f 7 ∷ []

-- the byte of eight bits
abbrev pub byte_of_bits : List ℕ → ℕ
byte_of_bits wires = number_of_bits (slice_index wires) 8

-- the circuit computes g at v
abbrev pub computes : (List ℕ → List ℕ) → (ℕ → ℕ) → ℕ → Bool
computes circuit g v = eqb (byte_of_bits (circuit (bits (λ i. v / 2 ^ i % 2)))) (g v)

-- lists with equal heads and equal tails
cons : {x y : ℕ} {xs ys : List ℕ} → x ≡ y → xs ≡ ys → x ∷ xs ≡ y ∷ ys
cons h i = ap₂ (λ (y : ℕ) (ys : List ℕ). y ∷ ys) h i

-- the bits of the number of eight bits
bits_back : (f : ℕ → ℕ) → ((i : ℕ) → f i < 2) → bits (λ i. number_of_bits f 8 / 2 ^ i % 2) ≡ bits f
unfolding number_of_bits
bits_back f h =
    let h0 = h 0 in let h1 = h 1 in let h2 = h 2 in let h3 = h 3 in
    let h4 = h 4 in let h5 = h 5 in let h6 = h 6 in let h7 = h 7 in
    cons (omega arith) (cons (omega arith) (cons (omega arith) (cons (omega arith)
    (cons (omega arith) (cons (omega arith) (cons (omega arith) (cons (omega arith) refl)))))))

-- the number of eight bits is a byte
pub number-lt : (f : ℕ → ℕ) → ((i : ℕ) → f i < 2) → number_of_bits f 8 < 256
unfolding number_of_bits
number-lt f h =
    let h0 = h 0 in let h1 = h 1 in let h2 = h 2 in let h3 = h 3 in
    let h4 = h 4 in let h5 = h 5 in let h6 = h 6 in let h7 = h 7 in
    omega arith

-- a circuit that passed the test at each byte computes g of eight bits
pub computed_is : (circuit : List ℕ → List ℕ) (g : ℕ → ℕ) → all_below (computes circuit g) 256 ≡ true
    → (f : ℕ → ℕ) → ((i : ℕ) → f i < 2) → byte_of_bits (circuit (bits f)) ≡ g (number_of_bits f 8)
computed_is circuit g test f h =
    ap (λ (wires : List ℕ). byte_of_bits (circuit wires)) (sym (bits_back f h))
    ∙ eqb-true _ _ (all_below-at (computes circuit g) 256 (number_of_bits f 8) test (number-lt f h))
