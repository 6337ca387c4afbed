-- Each step of AES undone by its inverse, and the other way round.
use Rattle.std.proofs.Common.{◌≡◌, ℕ, ◌+◌, ◌-◌, ◌*◌, ◌/◌, ◌%◌, ◌<◌, Bool, true, cond, eqb, List, [], ◌∷◌, length, map, slice_index, refl, sym, ap₂, ◌∙◌, lit<}
use Rattle.std.proofs.lemmas.Bool.{eqb-true}
use Rattle.std.proofs.lemmas.List.FromFn.{fill_by_all}
use Rattle.std.specs.List.{range_with_len}
use Rattle.std.specs.Int.Bits.{bit_xor, xor_lt, xor_zero_l, xor_zero_r}
use Rattle.luks_aes.specs.Polynomial.{poly_mul, poly_rem}
use Rattle.luks_aes.specs.Field.{gmul, sbox, inverse_sbox}
use Rattle.luks_aes.specs.Aes.{byte_in, state_by, sub_bytes, shift_rows, circulant, entry_of_product, mix_matrix, inverse_mix_matrix, mix_columns, add_round_key, inverse_sub_bytes, inverse_shift_rows, inverse_mix_columns}
use Rattle.luks_aes.proofs.TableFacts.{all_below, all_below-at}
use Rattle.luks_aes.proofs.PolynomialFacts.{interchange, xor_twice}
use Rattle.luks_aes.proofs.FieldFacts.{gmul-xor}
use Rattle.luks_aes.proofs.SboxFacts.{sbox-lt, inverse_sbox-lt, inverse_sbox-sbox, sbox-inverse_sbox}
use Rattle.luks_aes.specs.States.{AreBytes, IsState}
use Rattle.luks_aes.proofs.ByteFacts.{bytes-state_by, entry-lt}

-- ---- states by their bytes

-- equal functions over a list
same_map : (f g : ℕ → ℕ) (xs : List ℕ) → ((x : ℕ) → f x ≡ g x) → map f xs ≡ map g xs
same_map f g [] h = refl
same_map f g (x ∷ xs) h = ap₂ (λ (y : ℕ) (ys : List ℕ). y ∷ ys) (h x) (same_map f g xs h)

-- equal functions, equal states
same_state : (f g : ℕ → ℕ → ℕ) → ((r c : ℕ) → f r c ≡ g r c) → state_by f ≡ state_by g
unfolding state_by
same_state f g h = same_map (λ k. f (k % 4) (k / 4)) (λ k. g (k % 4) (k / 4)) (range_with_len 0 16) (λ k. h (k % 4) (k / 4))

-- lists with equal heads and equal tails
cons : {x y : ℕ} {xs ys : List ℕ} → x ≡ y → xs ≡ ys → x ∷ xs ≡ y ∷ ys
cons h i = ap₂ (λ (y : ℕ) (ys : List ℕ). y ∷ ys) h i

-- states that are equal in each row
pub same_rows : (f g : ℕ → ℕ → ℕ) → ((c : ℕ) → f 0 c ≡ g 0 c) → ((c : ℕ) → f 1 c ≡ g 1 c) → ((c : ℕ) → f 2 c ≡ g 2 c) → ((c : ℕ) → f 3 c ≡ g 3 c)
    → state_by f ≡ state_by g
unfolding state_by
same_rows f g h0 h1 h2 h3 =
    cons (h0 0) (cons (h1 0) (cons (h2 0) (cons (h3 0)
    (cons (h0 1) (cons (h1 1) (cons (h2 1) (cons (h3 1)
    (cons (h0 2) (cons (h1 2) (cons (h2 2) (cons (h3 2)
    (cons (h0 3) (cons (h1 3) (cons (h2 3) (cons (h3 3) refl)))))))))))))))

-- a state by its own bytes
state_by_self : (s : List ℕ) → length s ≡ 16 → state_by (byte_in s) ≡ s
unfolding state_by byte_in
state_by_self s h = sym (fill_by_all (slice_index s) s 16 0 h (λ k low. refl))

-- a byte of a state
byte_in-lt : (s : List ℕ) (r c : ℕ) → AreBytes s → byte_in s r c < 256
unfolding byte_in
byte_in-lt s r c h = h.at (r + 4 * c)

-- ---- every step gives a state

-- a state has 16 bytes
length-state_by : (f : ℕ → ℕ → ℕ) → length (state_by f) ≡ 16
unfolding state_by
length-state_by f = refl

-- bytes give a state
state_of : (f : ℕ → ℕ → ℕ) → ((r c : ℕ) → f r c < 256) → IsState (state_by f)
state_of f h = record { long = length-state_by f; bytes = bytes-state_by f h }

-- the sum has 16 bytes
pub length-add_round_key : (s k : List ℕ) → length (add_round_key s k) ≡ 16
unfolding add_round_key
length-add_round_key s k = length-state_by _

-- AddRoundKey gives a state
pub add_round_key-state : (s k : List ℕ) → AreBytes s → AreBytes k → IsState (add_round_key s k)
unfolding add_round_key
add_round_key-state s k h i = state_of _ (λ r c. xor_lt 8 (byte_in s r c) (byte_in k r c) (byte_in-lt s r c h) (byte_in-lt k r c i))

-- SubBytes gives a state
pub sub_bytes-state : (s : List ℕ) → AreBytes s → IsState (sub_bytes s)
unfolding sub_bytes
sub_bytes-state s h = state_of _ (λ r c. sbox-lt (byte_in s r c) (byte_in-lt s r c h))

-- ShiftRows gives a state
pub shift_rows-state : (s : List ℕ) → AreBytes s → IsState (shift_rows s)
unfolding shift_rows
shift_rows-state s h = state_of _ (λ r c. byte_in-lt s r ((c + r) % 4) h)

-- MixColumns gives a state
pub mix_columns-state : (s : List ℕ) → AreBytes s → IsState (mix_columns s)
unfolding mix_columns
mix_columns-state s h = state_of _ (λ r c. entry-lt mix_matrix (λ k. byte_in s k c) r (λ k. byte_in-lt s k c h))

-- InvSubBytes gives a state
pub inverse_sub_bytes-state : (s : List ℕ) → AreBytes s → IsState (inverse_sub_bytes s)
unfolding inverse_sub_bytes
inverse_sub_bytes-state s h = state_of _ (λ r c. inverse_sbox-lt (byte_in s r c) (byte_in-lt s r c h))

-- InvShiftRows gives a state
pub inverse_shift_rows-state : (s : List ℕ) → AreBytes s → IsState (inverse_shift_rows s)
unfolding inverse_shift_rows
inverse_shift_rows-state s h = state_of _ (λ r c. byte_in-lt s r ((c + 4 - r) % 4) h)

-- InvMixColumns gives a state
pub inverse_mix_columns-state : (s : List ℕ) → AreBytes s → IsState (inverse_mix_columns s)
unfolding inverse_mix_columns
inverse_mix_columns-state s h = state_of _ (λ r c. entry-lt inverse_mix_matrix (λ k. byte_in s k c) r (λ k. byte_in-lt s k c h))

-- ---- the sum, the S-box and the rows

-- a round key added twice
pub key_undone : (s k : List ℕ) → length s ≡ 16 → add_round_key (add_round_key s k) k ≡ s
unfolding add_round_key byte_in state_by
key_undone s k h =
    same_state (λ r c. bit_xor (bit_xor (byte_in s r c) (byte_in k r c)) (byte_in k r c)) (byte_in s) (λ r c. xor_twice (byte_in s r c) (byte_in k r c))
    ∙ state_by_self s h

-- SubBytes undone
pub sub_undone : (s : List ℕ) → IsState s → inverse_sub_bytes (sub_bytes s) ≡ s
unfolding sub_bytes inverse_sub_bytes byte_in state_by
sub_undone s h =
    same_state (λ r c. inverse_sbox (sbox (byte_in s r c))) (byte_in s) (λ r c. inverse_sbox-sbox (byte_in s r c) (byte_in-lt s r c h.bytes))
    ∙ state_by_self s h.long

-- SubBytes, the other way round
pub sub_redone : (s : List ℕ) → IsState s → sub_bytes (inverse_sub_bytes s) ≡ s
unfolding sub_bytes inverse_sub_bytes byte_in state_by
sub_redone s h =
    same_state (λ r c. sbox (inverse_sbox (byte_in s r c))) (byte_in s) (λ r c. sbox-inverse_sbox (byte_in s r c) (byte_in-lt s r c h.bytes))
    ∙ state_by_self s h.long

-- ShiftRows undone
pub shift_undone : (s : List ℕ) → length s ≡ 16 → inverse_shift_rows (shift_rows s) ≡ s
unfolding shift_rows inverse_shift_rows byte_in state_by
shift_undone s h = state_by_self s h

-- ShiftRows, the other way round
pub shift_redone : (s : List ℕ) → length s ≡ 16 → shift_rows (inverse_shift_rows s) ≡ s
unfolding shift_rows inverse_shift_rows byte_in state_by
shift_redone s h = state_by_self s h

-- ---- the columns

-- the sum of four
unfoldable pub quad : ℕ → ℕ → ℕ → ℕ → ℕ
quad a b c d = bit_xor (bit_xor a b) (bit_xor c d)

-- the product by a sum of four
gmul-quad : (p a b c d : ℕ) → gmul p (quad a b c d) ≡ quad (gmul p a) (gmul p b) (gmul p c) (gmul p d)
unfolding quad
gmul-quad p a b c d = gmul-xor p (bit_xor a b) (bit_xor c d) ∙ ap₂ bit_xor (gmul-xor p a b) (gmul-xor p c d)

-- two sums of four, added
quad-xor : (a b c d e f g h : ℕ) → bit_xor (quad a b c d) (quad e f g h) ≡ quad (bit_xor a e) (bit_xor b f) (bit_xor c g) (bit_xor d h)
unfolding quad
quad-xor a b c d e f g h =
    interchange (bit_xor a b) (bit_xor c d) (bit_xor e f) (bit_xor g h)
    ∙ ap₂ bit_xor (interchange a b e f) (interchange c d g h)

-- a sum of four sums, taken the other way
transposed : (f : ℕ → ℕ → ℕ)
    → quad (quad (f 0 0) (f 0 1) (f 0 2) (f 0 3)) (quad (f 1 0) (f 1 1) (f 1 2) (f 1 3)) (quad (f 2 0) (f 2 1) (f 2 2) (f 2 3)) (quad (f 3 0) (f 3 1) (f 3 2) (f 3 3))
    ≡ quad (quad (f 0 0) (f 1 0) (f 2 0) (f 3 0)) (quad (f 0 1) (f 1 1) (f 2 1) (f 3 1)) (quad (f 0 2) (f 1 2) (f 2 2) (f 3 2)) (quad (f 0 3) (f 1 3) (f 2 3) (f 3 3))
unfolding quad
transposed f =
    ap₂ bit_xor
    (quad-xor (f 0 0) (f 0 1) (f 0 2) (f 0 3) (f 1 0) (f 1 1) (f 1 2) (f 1 3))
    (quad-xor (f 2 0) (f 2 1) (f 2 2) (f 2 3) (f 3 0) (f 3 1) (f 3 2) (f 3 3))
    ∙ quad-xor (bit_xor (f 0 0) (f 1 0)) (bit_xor (f 0 1) (f 1 1)) (bit_xor (f 0 2) (f 1 2)) (bit_xor (f 0 3) (f 1 3))
    (bit_xor (f 2 0) (f 3 0)) (bit_xor (f 2 1) (f 3 1)) (bit_xor (f 2 2) (f 3 2)) (bit_xor (f 2 3) (f 3 3))

-- entry (r, j) of the product of two matrices, applied to y
unfoldable pub through : (ℕ → ℕ → ℕ) → (ℕ → ℕ → ℕ) → ℕ → ℕ → ℕ → ℕ
through m n r j y = quad (gmul (m r 0) (gmul (n 0 j) y)) (gmul (m r 1) (gmul (n 1 j) y)) (gmul (m r 2) (gmul (n 2 j) y)) (gmul (m r 3) (gmul (n 3 j) y))

-- a product by one matrix and then by another
pub product_of_products : (m n : ℕ → ℕ → ℕ) (x : ℕ → ℕ) (r : ℕ)
    → entry_of_product m (entry_of_product n x) r ≡ quad (through m n r 0 (x 0)) (through m n r 1 (x 1)) (through m n r 2 (x 2)) (through m n r 3 (x 3))
unfolding entry_of_product quad through
product_of_products m n x r =
    let spread : (k : ℕ) → gmul (m r k) (entry_of_product n x k) ≡ quad (gmul (m r k) (gmul (n k 0) (x 0))) (gmul (m r k) (gmul (n k 1) (x 1))) (gmul (m r k) (gmul (n k 2) (x 2))) (gmul (m r k) (gmul (n k 3) (x 3))) =
    λ k. gmul-quad (m r k) (gmul (n k 0) (x 0)) (gmul (n k 1) (x 1)) (gmul (n k 2) (x 2)) (gmul (n k 3) (x 3)) in
    ap₂ bit_xor (ap₂ bit_xor (spread 0) (spread 1)) (ap₂ bit_xor (spread 2) (spread 3))
    ∙ transposed (λ k j. gmul (m r k) (gmul (n k j) (x j)))

-- the product of two matrices is the identity, at every byte
abbrev is_identity : (ℕ → ℕ → ℕ) → (ℕ → ℕ → ℕ) → ℕ → ℕ → Bool
is_identity m n r j = all_below (λ y. eqb (through m n r j y) (cond (eqb r j) y 0)) 256

-- at each entry
abbrev are_inverse : (ℕ → ℕ → ℕ) → (ℕ → ℕ → ℕ) → Bool
are_inverse m n = all_below (λ r. all_below (is_identity m n r) 4) 4

-- MixColumns undone
unmix_mix_test : are_inverse inverse_mix_matrix mix_matrix ≡ true
unfolding poly_mul poly_rem gmul circulant inverse_mix_matrix mix_matrix quad through
unmix_mix_test = refl

-- MixColumns, the other way round
mix_unmix_test : are_inverse mix_matrix inverse_mix_matrix ≡ true
unfolding poly_mul poly_rem gmul circulant inverse_mix_matrix mix_matrix quad through
mix_unmix_test = refl

-- an entry of the identity
through_at : (m n : ℕ → ℕ → ℕ) → are_inverse m n ≡ true → (r j y : ℕ) → r < 4 → j < 4 → y < 256 → through m n r j y ≡ cond (eqb r j) y 0
through_at m n e r j y hr hj hy =
    let row = all_below-at (λ r. all_below (is_identity m n r) 4) 4 r e hr in
    let entry = all_below-at (is_identity m n r) 4 j row hj in
    eqb-true _ _ (all_below-at (λ y. eqb (through m n r j y) (cond (eqb r j) y 0)) 256 y entry hy)

module _ (m n : ℕ → ℕ → ℕ) (inverse : are_inverse m n ≡ true) (x : ℕ → ℕ) (bytes : (k : ℕ) → x k < 256) where
  -- an entry of a column that comes back
  terms : (r : ℕ) → r < 4 → entry_of_product m (entry_of_product n x) r ≡ quad (cond (eqb r 0) (x 0) 0) (cond (eqb r 1) (x 1) 0) (cond (eqb r 2) (x 2) 0) (cond (eqb r 3) (x 3) 0)
  unfolding quad
  terms r h =
      let at : (j : ℕ) → j < 4 → through m n r j (x j) ≡ cond (eqb r j) (x j) 0 = λ j hj. through_at m n inverse r j (x j) h hj (bytes j) in
      product_of_products m n x r
      ∙ ap₂ bit_xor (ap₂ bit_xor (at 0 (lit< tt)) (at 1 (lit< tt))) (ap₂ bit_xor (at 2 (lit< tt)) (at 3 (lit< tt)))

  -- the byte in row 0
  entry_0 : entry_of_product m (entry_of_product n x) 0 ≡ x 0
  unfolding quad
  entry_0 = terms 0 (lit< tt) ∙ xor_zero_r (bit_xor (x 0) 0) ∙ xor_zero_r (x 0)

  -- in row 1
  entry_1 : entry_of_product m (entry_of_product n x) 1 ≡ x 1
  unfolding quad
  entry_1 = terms 1 (lit< tt) ∙ xor_zero_r (bit_xor 0 (x 1)) ∙ xor_zero_l (x 1)

  -- in row 2
  entry_2 : entry_of_product m (entry_of_product n x) 2 ≡ x 2
  unfolding quad
  entry_2 = terms 2 (lit< tt) ∙ xor_zero_l (bit_xor (x 2) 0) ∙ xor_zero_r (x 2)

  -- in row 3
  entry_3 : entry_of_product m (entry_of_product n x) 3 ≡ x 3
  unfolding quad
  entry_3 = terms 3 (lit< tt) ∙ xor_zero_l (bit_xor 0 (x 3)) ∙ xor_zero_l (x 3)

-- the columns come back
columns_back : (m n : ℕ → ℕ → ℕ) (s : List ℕ) → are_inverse m n ≡ true → IsState s
    → state_by (λ r c. entry_of_product m (λ k. entry_of_product n (λ j. byte_in s j c) k) r) ≡ s
columns_back m n s e h =
    let column : ℕ → ℕ → ℕ = λ c j. byte_in s j c in
    let bytes : (c j : ℕ) → column c j < 256 = λ c j. byte_in-lt s j c h.bytes in
    same_rows (λ r c. entry_of_product m (entry_of_product n (column c)) r) (byte_in s)
    (λ c. entry_0 m n e (column c) (bytes c)) (λ c. entry_1 m n e (column c) (bytes c)) (λ c. entry_2 m n e (column c) (bytes c)) (λ c. entry_3 m n e (column c) (bytes c))
    ∙ state_by_self s h.long

-- a state mixed and unmixed
pub mix_undone : (s : List ℕ) → IsState s → inverse_mix_columns (mix_columns s) ≡ s
unfolding mix_columns inverse_mix_columns byte_in state_by entry_of_product
mix_undone s h = columns_back inverse_mix_matrix mix_matrix s unmix_mix_test h

-- a state unmixed and mixed
pub mix_redone : (s : List ℕ) → IsState s → mix_columns (inverse_mix_columns s) ≡ s
unfolding mix_columns inverse_mix_columns byte_in state_by entry_of_product
mix_redone s h = columns_back mix_matrix inverse_mix_matrix s mix_unmix_test h
