-- The S-box and its inverse: one computation over each.
use Rattle.std.proofs.Common.{◌≡◌, ℕ, ◌<◌, true, refl, slice_index_or, eqb, ltb, ◌&&◌}
use Rattle.std.proofs.lemmas.Bool.{ltb-true, eqb-true, and_parts}
use Rattle.luks_aes.specs.Polynomial.{poly_mul, poly_rem}
use Rattle.luks_aes.specs.Field.{gmul, gpower, inverse_below, inverse, number_of_bits, bit, affine, inverse_affine, sbox, inverse_sbox}
use Rattle.luks_aes.specs.declared.tables.TheConstants.{POWERS_OF_2}
use Rattle.luks_aes.proofs.TableFacts.{all_below, all_below-at, agrees, table_at}

-- the powers of 02 that the table has
powers_test : all_below (agrees POWERS_OF_2 gpower) 10 ≡ true
unfolding poly_mul poly_rem gmul gpower
powers_test = refl

-- one of them
pub power_at : (n : ℕ) → n < 10 → slice_index_or POWERS_OF_2 n 0 ≡ gpower n
power_at n h = table_at POWERS_OF_2 gpower 10 n powers_test h

-- the S-box gives bytes, and its inverse undoes it
sbox_test : all_below (λ x. ltb (sbox x) 256 && eqb (inverse_sbox (sbox x)) x) 256 ≡ true
unfolding poly_mul poly_rem gmul inverse_below inverse number_of_bits bit affine sbox inverse_affine inverse_sbox
sbox_test = refl

-- its inverse gives bytes, and the S-box undoes it
inverse_sbox_test : all_below (λ x. ltb (inverse_sbox x) 256 && eqb (sbox (inverse_sbox x)) x) 256 ≡ true
unfolding poly_mul poly_rem gmul inverse_below inverse number_of_bits bit affine sbox inverse_affine inverse_sbox
inverse_sbox_test = refl

-- the S-box gives bytes
pub sbox-lt : (x : ℕ) → x < 256 → sbox x < 256
sbox-lt x h = ltb-true (sbox x) 256 (and_parts _ _ (all_below-at (λ x. ltb (sbox x) 256 && eqb (inverse_sbox (sbox x)) x) 256 x sbox_test h)).0

-- its inverse gives bytes
pub inverse_sbox-lt : (x : ℕ) → x < 256 → inverse_sbox x < 256
inverse_sbox-lt x h = ltb-true (inverse_sbox x) 256 (and_parts _ _ (all_below-at (λ x. ltb (inverse_sbox x) 256 && eqb (sbox (inverse_sbox x)) x) 256 x inverse_sbox_test h)).0

-- the S-box undone
pub inverse_sbox-sbox : (x : ℕ) → x < 256 → inverse_sbox (sbox x) ≡ x
inverse_sbox-sbox x h = eqb-true _ _ (and_parts _ _ (all_below-at (λ x. ltb (sbox x) 256 && eqb (inverse_sbox (sbox x)) x) 256 x sbox_test h)).1

-- the S-box, the other way round
pub sbox-inverse_sbox : (x : ℕ) → x < 256 → sbox (inverse_sbox x) ≡ x
sbox-inverse_sbox x h = eqb-true _ _ (and_parts _ _ (all_below-at (λ x. ltb (inverse_sbox x) 256 && eqb (sbox (inverse_sbox x)) x) 256 x inverse_sbox_test h)).1
