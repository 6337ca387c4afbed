-- Planes: eight vectors of 16 bytes. Bit b of byte k of plane i is bit i of byte k of block b.
use Rattle.std.specs.Prelude.{◌≡◌, ◌⊎◌, ℕ, ◌+◌, ◌*◌, ◌/◌, ◌%◌, ◌^◌, ◌<◌, List, length, slice_index, slice_index_or, [], map}
use Rattle.std.specs.List.{range_with_len}
use Rattle.luks_aes.specs.Field.{number_of_bits}
use Rattle.luks_aes.specs.Aes.{round_key}

-- a vector of 16 bytes
pub record IsPlane (x : List ℕ) : Type 0 where
  pub long : length x ≡ 16
  pub bytes : (k : ℕ) → k < 16 → slice_index x k < 256

-- each of eight vectors
abbrev pub ArePlanes : List (List ℕ) → Type 0
ArePlanes x = (i : ℕ) → i < 8 → IsPlane (slice_index_or x i [])

-- bit b of byte k of a plane
abbrev pub bit_of : ℕ → ℕ → List ℕ → ℕ
bit_of k b x = slice_index x k / 2 ^ b % 2

-- bit b of byte k of each of the first n planes
abbrev pub bits_of : ℕ → ℕ → ℕ → List (List ℕ) → List ℕ
bits_of n k b planes = map (λ i. bit_of k b (slice_index_or planes i [])) (range_with_len 0 n)

-- byte k of block b
abbrev pub byte_of : ℕ → ℕ → List (List ℕ) → ℕ
byte_of k b planes = number_of_bits (λ i. bit_of k b (slice_index_or planes i [])) 8

-- block b
abbrev pub block_of : ℕ → List (List ℕ) → List ℕ
block_of b planes = map (λ k. byte_of k b planes) (range_with_len 0 16)

-- the masks of the places whose bit of weight n is 0
abbrev pub IsStep : ℕ → ℕ → Type 0
IsStep n mask = (n ≡ 1) × (mask ≡ 0x55) ⊎ ((n ≡ 2) × (mask ≡ 0x33) ⊎ (n ≡ 4) × (mask ≡ 0x0F))

-- the place of the byte that stands n rows below byte k of a state, in its column
abbrev pub rotated_place : ℕ → ℕ → ℕ
rotated_place n k = 4 * (k / 4) + (k + n) % 4

-- each of these is eight times the round key of a schedule, side by side
abbrev pub AreKeyPlanes : List (List (List ℕ)) → List ℕ → Type 0
AreKeyPlanes keys words = (i b : ℕ) → i < length keys → b < 8 → block_of b (slice_index_or keys i []) ≡ round_key words i
