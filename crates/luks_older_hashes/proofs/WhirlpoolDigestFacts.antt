-- The digest of "abc" that the standard gives, so that a wrong mini-box, matrix, shift, constant or padding
-- of the definition does not check; and the length of a digest.
use Rattle.std.proofs.Common.{◌≡◌, ℕ, zero, suc, List, [], ◌∷◌, codes, length, refl}
use Rattle.std.specs.Prelude.{take, drop, ◌*◌, ◌/◌}
use Rattle.luks_older_hashes.specs.Whirlpool.{add, cipher, compress, constant, hash_after, inverse_below, mix_rows, padded, product, product_by, round, round_key, row_mixed, rows_mixed, sbox, shift_columns, state_after, state_by, sub_bytes, times_power, times_x, whirlpool}

-- the digest of "abc"
pub digest_of_abc : whirlpool (codes "abc") ≡ 78 ∷ 36 ∷ 72 ∷ 164 ∷ 198 ∷ 244 ∷ 134 ∷ 187 ∷ 22 ∷ 182 ∷ 86 ∷ 44 ∷ 115 ∷ 180 ∷ 2 ∷ 11 ∷ 243 ∷ 4 ∷ 62 ∷ 58 ∷ 115 ∷ 27 ∷ 206 ∷ 114 ∷ 26 ∷ 225 ∷ 179 ∷ 3 ∷ 217 ∷ 126 ∷ 109 ∷ 76 ∷ 113 ∷ 129 ∷ 238 ∷ 189 ∷ 182 ∷ 197 ∷ 126 ∷ 39 ∷ 125 ∷ 14 ∷ 52 ∷ 149 ∷ 113 ∷ 20 ∷ 203 ∷ 214 ∷ 199 ∷ 151 ∷ 252 ∷ 157 ∷ 149 ∷ 216 ∷ 181 ∷ 130 ∷ 210 ∷ 37 ∷ 41 ∷ 32 ∷ 118 ∷ 212 ∷ 238 ∷ 245 ∷ []
unfolding add cipher compress constant hash_after inverse_below mix_rows product product_by round round_key row_mixed rows_mixed sbox shift_columns state_after state_by sub_bytes times_power times_x whirlpool
digest_of_abc = refl

-- a sum has 64 bytes
length-add : (s t : List ℕ) → length (add s t) ≡ 64
unfolding add
length-add s t = refl

-- a state has 64 bytes
length-hash_after : (p : List ℕ) (n : ℕ) → length (hash_after p n) ≡ 64
unfolding hash_after compress
length-hash_after p zero = refl
length-hash_after p (suc n) =
    let h = hash_after p n in
    let block = take 64 (drop (n * 64) p) in
    length-add (add (cipher h block) h) block

-- a digest has 64 bytes
pub length-whirlpool : (m : List ℕ) → length (whirlpool m) ≡ 64
unfolding whirlpool
length-whirlpool m = length-hash_after (padded m) (length (padded m) / 64)
