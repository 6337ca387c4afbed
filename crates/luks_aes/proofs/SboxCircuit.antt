-- The circuits compute the S-box and its inverse: at each byte.
use Rattle.std.proofs.Common.{◌≡◌, ℕ, true, List, refl}
use Rattle.luks_aes.specs.Polynomial.{poly_mul, poly_rem}
use Rattle.luks_aes.specs.Field.{gmul, inverse_below, inverse, number_of_bits, bit, affine, inverse_affine, sbox, inverse_sbox}
use Rattle.luks_aes.specs.Circuits.{with_constant, with_constant_gates, factors, factors_gates, inverse_factors, inverse_factors_gates, norm, norm_gates, norm_inverse, norm_inverse_gates, products, products_gates, middle, sums, sums_gates, inverse_sums, inverse_sums_gates}
use Rattle.luks_aes.proofs.TableFacts.{all_below}
use Rattle.luks_aes.proofs.CircuitFacts.{computes}

-- the circuit of the S-box
abbrev pub sbox_circuit : List ℕ → List ℕ
sbox_circuit x = with_constant (sums (middle (factors x)))

-- the circuit of its inverse
abbrev pub inverse_sbox_circuit : List ℕ → List ℕ
inverse_sbox_circuit x = inverse_sums (middle (inverse_factors (with_constant x)))

-- the S-box at each byte
pub sbox_circuit_test : all_below (computes sbox_circuit sbox) 256 ≡ true
unfolding poly_mul poly_rem gmul inverse_below inverse number_of_bits bit affine sbox with_constant with_constant_gates factors factors_gates norm norm_gates norm_inverse norm_inverse_gates products products_gates middle sums sums_gates
sbox_circuit_test = refl

-- the inverse at each byte
pub inverse_sbox_circuit_test : all_below (computes inverse_sbox_circuit inverse_sbox) 256 ≡ true
unfolding poly_mul poly_rem gmul inverse_below inverse number_of_bits bit inverse_affine inverse_sbox with_constant with_constant_gates inverse_factors inverse_factors_gates norm norm_gates norm_inverse norm_inverse_gates products products_gates middle inverse_sums inverse_sums_gates
inverse_sbox_circuit_test = refl
