-- The parts of the circuits of the S-box and of its inverse, on the bits of a byte. Written by tools/circuits.
use Rattle.std.specs.Prelude.{ℕ, List, [], ◌∷◌, ◌++◌}
use Rattle.luks_aes.specs.Gates.{Gate, xor_of, and_of, not_of, outcome}

-- the sum of each byte and 0x63; its gates first
unfoldable pub with_constant_gates : List Gate
with_constant_gates =
    not_of 0 ∷ not_of 2 ∷ not_of 7 ∷ not_of 9 ∷ []

unfoldable pub with_constant : List ℕ → List ℕ
with_constant wires = outcome with_constant_gates (3 ∷ 2 ∷ 6 ∷ 7 ∷ 8 ∷ 1 ∷ 0 ∷ 11 ∷ []) wires

-- the sums of a byte's bits that the middle multiplies; its gates first
unfoldable pub factors_gates : List Gate
factors_gates =
    xor_of 4 2 ∷ xor_of 8 2 ∷ xor_of 9 6 ∷ xor_of 10 5 ∷ xor_of 10 9 ∷ xor_of 0 5 ∷ xor_of 0 10 ∷ xor_of 5 6 ∷
    xor_of 2 15 ∷ xor_of 3 10 ∷ xor_of 0 6 ∷ xor_of 14 3 ∷ xor_of 0 14 ∷ xor_of 1 19 ∷ xor_of 1 14 ∷ xor_of 2 10 ∷
    xor_of 2 13 ∷ xor_of 17 0 ∷ xor_of 2 1 ∷ xor_of 3 15 ∷ xor_of 15 3 ∷ xor_of 19 0 ∷ xor_of 29 1 ∷ []

unfoldable pub factors : List ℕ → List ℕ
factors wires = outcome factors_gates (23 ∷ 17 ∷ 14 ∷ 12 ∷ 16 ∷ 13 ∷ 8 ∷ 5 ∷ 19 ∷ 20 ∷ 7 ∷ 6 ∷ 15 ∷ 21 ∷ 22 ∷ 10 ∷ 2 ∷ 4 ∷ 0 ∷ 3 ∷ 9 ∷ 1 ∷ []) wires

-- as `factors`, for the inverse of the S-box: of a byte to which 0x63 was added; its gates first
unfoldable pub inverse_factors_gates : List Gate
inverse_factors_gates =
    xor_of 6 4 ∷ xor_of 2 1 ∷ xor_of 6 5 ∷ xor_of 9 6 ∷ xor_of 3 2 ∷ xor_of 12 7 ∷ xor_of 13 12 ∷ xor_of 12 6 ∷
    xor_of 6 4 ∷ xor_of 16 8 ∷ xor_of 15 5 ∷ xor_of 11 7 ∷ xor_of 7 6 ∷ xor_of 7 4 ∷ xor_of 12 11 ∷ xor_of 16 11 ∷
    xor_of 17 13 ∷ xor_of 22 14 ∷ xor_of 23 2 ∷ xor_of 24 13 ∷ xor_of 18 13 ∷ xor_of 21 18 ∷ xor_of 24 5 ∷
    xor_of 30 27 ∷ xor_of 31 12 ∷ xor_of 28 15 ∷ xor_of 26 18 ∷ xor_of 30 27 ∷ xor_of 30 20 ∷ []

unfoldable pub inverse_factors : List ℕ → List ℕ
inverse_factors wires = outcome inverse_factors_gates (9 ∷ 7 ∷ 20 ∷ 5 ∷ 24 ∷ 28 ∷ 19 ∷ 18 ∷ 22 ∷ 26 ∷ 4 ∷ 16 ∷ 8 ∷ 14 ∷ 3 ∷ 0 ∷ 10 ∷ 6 ∷ 11 ∷ 1 ∷ 15 ∷ 2 ∷ []) wires

-- the element of the field of 16 elements that is inverted in the place of a byte; its gates first
unfoldable pub norm_gates : List Gate
norm_gates =
    and_of 12 15 ∷ and_of 4 7 ∷ xor_of 0 1 ∷ and_of 7 3 ∷ xor_of 0 3 ∷ and_of 18 21 ∷ and_of 11 7 ∷ xor_of 0 1 ∷
    and_of 10 15 ∷ xor_of 0 3 ∷ and_of 19 21 ∷ and_of 25 28 ∷ xor_of 0 1 ∷ and_of 21 23 ∷ xor_of 0 3 ∷ xor_of 12 2 ∷
    xor_of 11 1 ∷ xor_of 9 4 ∷ xor_of 8 3 ∷ xor_of 3 39 ∷ xor_of 3 39 ∷ xor_of 3 42 ∷ xor_of 3 40 ∷ []

unfoldable pub norm : List ℕ → List ℕ
norm wires = outcome norm_gates (3 ∷ 2 ∷ 1 ∷ 0 ∷ []) wires

-- the inverse of that element, and sums of the inverse's bits; its gates first
unfoldable pub norm_inverse_gates : List Gate
norm_inverse_gates =
    xor_of 0 1 ∷ and_of 1 3 ∷ xor_of 5 0 ∷ and_of 2 0 ∷ xor_of 0 5 ∷ xor_of 7 8 ∷ xor_of 7 4 ∷ and_of 0 1 ∷
    xor_of 0 11 ∷ xor_of 11 0 ∷ xor_of 7 1 ∷ and_of 14 0 ∷ xor_of 0 2 ∷ xor_of 10 1 ∷ and_of 9 0 ∷ xor_of 14 0 ∷
    xor_of 0 3 ∷ xor_of 12 8 ∷ xor_of 13 2 ∷ xor_of 10 6 ∷ xor_of 2 3 ∷ []

unfoldable pub norm_inverse : List ℕ → List ℕ
norm_inverse wires = outcome norm_inverse_gates (16 ∷ 12 ∷ 8 ∷ 5 ∷ 4 ∷ 3 ∷ 2 ∷ 1 ∷ 0 ∷ []) wires

-- the products of the sums and of the inverse's bits; its gates first
unfoldable pub products_gates : List Gate
products_gates =
    and_of 29 15 ∷ and_of 25 7 ∷ and_of 25 2 ∷ and_of 31 19 ∷ and_of 29 5 ∷ and_of 27 12 ∷ and_of 33 17 ∷ and_of 37 24 ∷
    and_of 34 18 ∷ and_of 38 21 ∷ and_of 34 13 ∷ and_of 34 15 ∷ and_of 40 25 ∷ and_of 38 18 ∷ and_of 36 16 ∷
    and_of 42 24 ∷ and_of 46 30 ∷ and_of 43 25 ∷ []

unfoldable pub products : List ℕ → List ℕ
products wires = outcome products_gates (17 ∷ 16 ∷ 15 ∷ 14 ∷ 13 ∷ 12 ∷ 11 ∷ 10 ∷ 9 ∷ 8 ∷ 7 ∷ 6 ∷ 5 ∷ 4 ∷ 3 ∷ 2 ∷ 1 ∷ 0 ∷ []) wires

-- the sums of the products that are the S-box's byte except for 0x63; its gates first
unfoldable pub sums_gates : List Gate
sums_gates =
    xor_of 15 16 ∷ xor_of 11 12 ∷ xor_of 7 15 ∷ xor_of 12 13 ∷ xor_of 6 16 ∷ xor_of 7 10 ∷ xor_of 13 14 ∷ xor_of 7 10 ∷
    xor_of 14 15 ∷ xor_of 25 26 ∷ xor_of 22 7 ∷ xor_of 6 3 ∷ xor_of 16 11 ∷ xor_of 16 4 ∷ xor_of 13 2 ∷ xor_of 29 3 ∷
    xor_of 9 3 ∷ xor_of 13 4 ∷ xor_of 22 4 ∷ xor_of 3 2 ∷ xor_of 21 2 ∷ xor_of 7 3 ∷ xor_of 11 5 ∷ xor_of 20 8 ∷
    xor_of 5 4 ∷ xor_of 17 4 ∷ xor_of 20 5 ∷ xor_of 25 7 ∷ xor_of 9 2 ∷ xor_of 19 4 ∷ []

unfoldable pub sums : List ℕ → List ℕ
sums wires = outcome sums_gates (6 ∷ 7 ∷ 2 ∷ 3 ∷ 4 ∷ 0 ∷ 1 ∷ 8 ∷ []) wires

-- the sums that are the inverse's byte; its gates first
unfoldable pub inverse_sums_gates : List Gate
inverse_sums_gates =
    xor_of 2 5 ∷ xor_of 14 17 ∷ xor_of 13 19 ∷ xor_of 15 1 ∷ xor_of 7 3 ∷ xor_of 5 0 ∷ xor_of 21 2 ∷ xor_of 11 6 ∷
    xor_of 11 14 ∷ xor_of 2 0 ∷ xor_of 19 7 ∷ xor_of 12 3 ∷ xor_of 28 6 ∷ xor_of 23 0 ∷ xor_of 18 21 ∷ xor_of 25 29 ∷
    xor_of 13 2 ∷ xor_of 28 1 ∷ xor_of 14 7 ∷ xor_of 27 9 ∷ xor_of 8 2 ∷ xor_of 34 0 ∷ xor_of 27 2 ∷ xor_of 1 0 ∷
    xor_of 5 0 ∷ xor_of 19 2 ∷ xor_of 14 0 ∷ xor_of 17 12 ∷ xor_of 11 0 ∷ xor_of 44 18 ∷ []

unfoldable pub inverse_sums : List ℕ → List ℕ
inverse_sums wires = outcome inverse_sums_gates (0 ∷ 2 ∷ 3 ∷ 1 ∷ 4 ∷ 6 ∷ 5 ∷ 7 ∷ []) wires

-- the middle of both: the inversion in the field
unfoldable pub middle : List ℕ → List ℕ
middle wires = products (wires ++ norm_inverse (norm wires))
