-- Bytes as two elements of the field of 16 elements, their parts, by which they are inverted.
use Rattle.std.specs.Prelude.{◌⊎◌, ℕ, zero, suc, ◌≤◌, ◌<◌, ◌/◌, ◌%◌, ◌==◌, nat_lt, if◌then◌else◌, List, slice_index, bit_xor}
use Rattle.luks_aes.specs.Polynomial.{poly_mul, poly_rem}

-- places in a table of 16 bytes, or 128 and more, where no table has anything but 0
abbrev pub ArePlaces : List ℕ → Type 0
ArePlaces x = (k : ℕ) → k < 16 → (slice_index x k < 16) ⊎ (128 ≤ slice_index x k)

-- the product of two elements of the field of 16 elements: modulo x^4 + x + 1
unfoldable pub small_product : ℕ → ℕ → ℕ
small_product a b = poly_rem 0x13 4 3 (poly_mul 4 a b)

-- the element below n whose product with b is 1; 128 where there is none
unfoldable pub reciprocal_below : ℕ → ℕ → ℕ
reciprocal_below zero b = 128
reciprocal_below (suc n) b = if small_product n b == 1 then n else reciprocal_below n b

-- the reciprocal; that of 0 is beyond all elements, 128, and that of what is beyond them is 0
unfoldable pub reciprocal : ℕ → ℕ
reciprocal b = if nat_lt b 16 then reciprocal_below 16 b else 0

-- 2 divided by an element, and 128 for 0
unfoldable pub quotient : ℕ → ℕ
quotient b = if b == 0 then 128 else small_product 2 (reciprocal b)

-- the norm of a byte whose parts are i and k, 2 i^2 + 2 i k + k^2, divided by k + 2 i, where j is the
-- sum of i and k
unfoldable pub place : ℕ → ℕ → ℕ → ℕ
place i j k = bit_xor (reciprocal (bit_xor (reciprocal i) (quotient k))) j

-- the sum of what two tables have at this place and at that with j for i, by the parts in the halves of
-- a byte
unfoldable pub joined : List ℕ → List ℕ → ℕ → ℕ
joined first second x =
    let i = x / 16 in
    let k = x % 16 in
    let j = bit_xor i k in
    bit_xor (slice_index first (place i j k)) (slice_index second (place j i k))

-- the parts of a byte, the sum of those of its halves
unfoldable pub parts_by : List ℕ → List ℕ → ℕ → ℕ
parts_by first second x = bit_xor (slice_index first (x % 16)) (slice_index second (x / 16))
