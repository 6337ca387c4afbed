-- The anti-forensic splitter (LUKS1 On-Disk Format 1.2.3, 2.4) on lists of bytes. The stripes s_1
-- to s_n, each as long as the key, lie in a row in one list.
use Rattle.std.specs.Prelude.{◌≡◌, ℕ, zero, suc, ◌+◌, ◌-◌, ◌*◌, ◌%◌, ◌≤◌, List, [], ◌++◌, length, take, drop, replicate}
use Rattle.std.specs.Int.{w32, to_be_bytes}
use Rattle.luks_kdf.specs.Xor.{xor_bytes}

-- block j, from 0, of a list that is cut into blocks of a size; the last one may be shorter
unfoldable pub block_at : ℕ → List ℕ → ℕ → List ℕ
block_at size bytes j = take size (drop (j * size) bytes)

-- a block hashed by itself, after its number in 4 bytes, high byte first, and cut to its own length
unfoldable pub diffused : (List ℕ → List ℕ) → ℕ → List ℕ → List ℕ
diffused hash j block = take (length block) (hash (to_be_bytes w32 j ++ block))

-- the first n blocks of the hash's size, each diffused, joined
unfoldable pub diffused_blocks : (List ℕ → List ℕ) → ℕ → List ℕ → ℕ → List ℕ
diffused_blocks hash size bytes zero = []
diffused_blocks hash size bytes (suc n) =
    diffused_blocks hash size bytes n ++ diffused hash n (block_at size bytes n)

-- all blocks diffused. There are no more blocks than bytes, and those past the end are empty.
unfoldable pub diffuse : (List ℕ → List ℕ) → ℕ → List ℕ → List ℕ
diffuse hash size bytes = diffused_blocks hash size bytes (length bytes)

-- s_(i+1), of stripes of k bytes
unfoldable pub stripe_at : ℕ → List ℕ → ℕ → List ℕ
stripe_at k stripes i = block_at k stripes i

-- d_i: d_0 is k zeros, and d_i is d_(i-1) xor s_i, diffused
unfoldable pub mixed : (List ℕ → List ℕ) → ℕ → ℕ → List ℕ → ℕ → List ℕ
mixed hash size k stripes zero = replicate k 0
mixed hash size k stripes (suc i) =
    diffuse hash size (xor_bytes (mixed hash size k stripes i) (stripe_at k stripes i))

-- the key of k bytes that n stripes hold: d_(n-1) xor s_n
unfoldable pub merge : (List ℕ → List ℕ) → ℕ → ℕ → ℕ → List ℕ → List ℕ
merge hash size k n stripes =
    xor_bytes (mixed hash size k stripes (n - 1)) (stripe_at k stripes (n - 1))

-- n stripes that hold the key: the first n - 1 are the random ones, the last is d_(n-1) xor the key
unfoldable pub split : (List ℕ → List ℕ) → ℕ → List ℕ → ℕ → List ℕ → List ℕ
split hash size key n random =
    random ++ xor_bytes (mixed hash size (length key) random (n - 1)) key

-- d_0 of a key of k bytes
pub record IsStart (hash : List ℕ → List ℕ) (size k : ℕ) (block : List ℕ) : Type 0 where
  pub zeros : block ≡ replicate k 0
  pub len : length block ≡ k
  pub first : (stripes : List ℕ) → block ≡ mixed hash size k stripes 0

-- the step from d_i to d_(i+1), by a stripe, in whichever row of stripes it stands
pub record TakesIn (hash : List ℕ → List ℕ) (size : ℕ) (before stripe after : List ℕ) : Type 0 where
  pub step : after ≡ diffuse hash size (xor_bytes before stripe)
  pub len : length after ≡ length before
  pub in_turn : (k i : ℕ) (stripes : List ℕ) → before ≡ mixed hash size k stripes i
      → stripe ≡ stripe_at k stripes i → after ≡ mixed hash size k stripes (i + 1)

-- the key has 1 to 128 bytes, the random bytes are whole stripes, and there is room for one stripe
-- more
pub record CanSplit (key random out : List ℕ) : Type 0 where
  pub some_bytes : 1 ≤ length key
  pub at_most_128 : length key ≤ 128
  pub whole_stripes : length random % length key ≡ 0
  pub one_more : length out ≡ length random + length key

-- the stripes are those that hold the key, and merging them gives it back
pub record Splits (hash : List ℕ → List ℕ) (size : ℕ) (key random stripes : List ℕ) : Type 0 where
  pub value : (n : ℕ) → length stripes ≡ n * length key → stripes ≡ split hash size key n random
  pub merges_back : (n : ℕ) → length stripes ≡ n * length key
      → merge hash size (length key) n stripes ≡ key

-- the key that the stripes hold has 1 to 128 bytes, and there are some stripes, all of its length
pub record CanMerge (stripes key : List ℕ) : Type 0 where
  pub some_bytes : 1 ≤ length key
  pub at_most_128 : length key ≤ 128
  pub some_stripes : 1 ≤ length stripes
  pub whole_stripes : length stripes % length key ≡ 0

-- the key of k bytes is the one that the stripes hold
abbrev pub Merges : (List ℕ → List ℕ) → ℕ → ℕ → List ℕ → List ℕ → Type 0
Merges hash size k stripes key =
    (n : ℕ) → length stripes ≡ n * k → key ≡ merge hash size k n stripes

-- merging undoes splitting, for every key and all random stripes
abbrev pub UndoesSplit : (List ℕ → List ℕ) → ℕ → Type 0
UndoesSplit hash size =
    (key random : List ℕ) (n : ℕ) → length random ≡ n * length key
    → merge hash size (length key) (n + 1) (split hash size key (n + 1) random) ≡ key
