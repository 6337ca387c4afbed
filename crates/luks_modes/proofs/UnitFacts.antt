-- Units as blocks joined, and each undone by its partner.
use Rattle.std.proofs.Common.{◌≡◌, ℕ, zero, suc, ◌+◌, ◌*◌, ◌/◌, ◌%◌, ◌<◌, ◌≤◌, List, ◌++◌, length, take, drop, slice_index, sym, subst, ap, ap₂, ◌∙◌, refl, arith, ⊎_elim, lit<}
use Rattle.std.proofs.lemmas.Bool.{cases_lt}
use Rattle.std.proofs.lemmas.List.{length-append, length-take-le, length-drop, take_all, take-append-le, drop-append-le, drop_at, drop-take, take-take, take-append-drop}
use Rattle.std.proofs.Math.Nat.{mod-lt}
use Rattle.std.specs.Int.{w128, to_le_bytes, bytes_low_first, byte_at}
use Rattle.luks_aes.specs.Aes.{byte_in, state_by, add_round_key, Aes, AesInverse}
use Rattle.luks_modes.specs.Xts.{xor_block, alpha_times, block_key, tweak_of, sealed_under, opened_under, sealed_block, opened_block, block_at, joined, XtsSeal, XtsOpen}
use Rattle.luks_aes.specs.States.{AreBytes, IsState}
use Rattle.luks_aes.proofs.ByteFacts.{bytes-take, bytes-drop}
use Rattle.luks_aes.proofs.StepFacts.{key_undone, add_round_key-state, length-add_round_key}
use Rattle.luks_aes.proofs.InverseFacts.{aes_undone, aes_redone, aes-state, inverse-state}

-- ---- joined blocks

-- the length of joined blocks
pub length-joined : (f : ℕ → List ℕ) (n : ℕ) → ((j : ℕ) → length (f j) ≡ 16) → length (joined f n) ≡ 16 * n
unfolding joined
length-joined f zero h = refl
length-joined f (suc n) h = omega (arith, length-append (joined f n) (f n), length-joined f n h, h n)

-- equal blocks, joined
pub same_joined : (f g : ℕ → List ℕ) (n : ℕ) → ((j : ℕ) → j < n → f j ≡ g j) → joined f n ≡ joined g n
unfolding joined
same_joined f g zero h = refl
same_joined f g (suc n) h = ap₂ (λ (xs ys : List ℕ). xs ++ ys) (same_joined f g n (λ j low. h j (omega arith))) (h n (omega arith))

-- block j of joined blocks
pub block_at-joined : (f : ℕ → List ℕ) (n j : ℕ) → ((j : ℕ) → length (f j) ≡ 16) → j < n → block_at (joined f n) j ≡ f j
unfolding joined block_at
block_at-joined f zero j h low = absurd (omega arith)
block_at-joined f (suc n) j h low =
    let long : length (joined f n) ≡ 16 * n = length-joined f n h in
    ⊎_elim
    (λ (below : j < n).
    ap (take 16) (drop-append-le (16 * j) (joined f n) (f n) (omega arith))
    ∙ take-append-le 16 (drop (16 * j) (joined f n)) (f n) (omega (arith, length-drop (16 * j) (joined f n)))
    ∙ block_at-joined f n j h below)
    (λ (above : n ≤ j).
    let last : j ≡ n = omega arith in
    ap (λ (k : ℕ). take 16 (drop (16 * k) (joined f n ++ f n))) last
    ∙ ap (take 16) (drop_at (joined f n) (f n) (16 * n) long)
    ∙ take_all 16 (f n) (omega (arith, h n))
    ∙ ap f (sym last))
    (cases_lt j n)

-- one block more of a list
take_more_block : (xs : List ℕ) (n : ℕ) → 16 * n + 16 ≤ length xs → take (16 * n) xs ++ take 16 (drop (16 * n) xs) ≡ take (16 * n + 16) xs
take_more_block xs n h =
    sym (ap₂ (λ (a b : List ℕ). a ++ b) (take-take (16 * n) (16 * n + 16) xs (omega arith)) (drop-take (16 * n) 16 xs))
    ∙ take-append-drop (16 * n) (take (16 * n + 16) xs)

-- the blocks of a list of whole blocks
joined-blocks_below : (xs : List ℕ) (n : ℕ) → 16 * n ≤ length xs → joined (block_at xs) n ≡ take (16 * n) xs
unfolding joined block_at
joined-blocks_below xs zero h = refl
joined-blocks_below xs (suc n) h =
    let more : 16 * n + 16 ≡ 16 * suc n = omega arith in
    ap (λ (a : List ℕ). a ++ take 16 (drop (16 * n) xs)) (joined-blocks_below xs n (omega arith))
    ∙ take_more_block xs n (omega arith)
    ∙ ap (λ (k : ℕ). take k xs) more

-- the blocks of a whole list, joined
pub joined-blocks : (xs : List ℕ) → length xs % 16 ≡ 0 → joined (block_at xs) (length xs / 16) ≡ xs
joined-blocks xs h = joined-blocks_below xs (length xs / 16) (omega arith) ∙ take_all (16 * (length xs / 16)) xs (omega arith)

-- a block has 16 bytes
pub length-block_at : (xs : List ℕ) (n j : ℕ) → length xs ≡ 16 * n → j < n → length (block_at xs j) ≡ 16
unfolding block_at
length-block_at xs n j h low = length-take-le 16 (drop (16 * j) xs) (omega (arith, length-drop (16 * j) xs))

-- a block of a list of bytes
pub bytes-block_at : (xs : List ℕ) (j : ℕ) → AreBytes xs → AreBytes (block_at xs j)
unfolding block_at
bytes-block_at xs j h = bytes-take 16 (drop (16 * j) xs) (bytes-drop (16 * j) xs h)

-- ---- a block undone

-- the sum of two blocks is what AddRoundKey computes
xor_block_is : (s t : List ℕ) → xor_block s t ≡ add_round_key s t
unfolding xor_block add_round_key byte_in state_by
xor_block_is s t = refl

-- a block added twice
pub xor_block_undone : (s t : List ℕ) → length s ≡ 16 → xor_block (xor_block s t) t ≡ s
xor_block_undone s t h =
    xor_block_is (xor_block s t) t ∙ ap (λ (u : List ℕ). add_round_key u t) (xor_block_is s t) ∙ key_undone s t h

-- the sum of two blocks is a state
pub xor_block-state : (s t : List ℕ) → AreBytes s → AreBytes t → IsState (xor_block s t)
xor_block-state s t h i = subst (λ (u : List ℕ). IsState u) (sym (xor_block_is s t)) (add_round_key-state s t h i)

-- the length of a sum
pub length-xor_block : (s t : List ℕ) → length (xor_block s t) ≡ 16
length-xor_block s t = ap length (xor_block_is s t) ∙ length-add_round_key s t

-- a byte of a number
byte-lt : (i n : ℕ) → byte_at i n < 256
byte-lt zero n = mod-lt n (lit< tt)
byte-lt (suc i) n = mod-lt _ (lit< tt)

-- an element of bytes, lowest first
low_first : (i k n j : ℕ) → slice_index (bytes_low_first i k n) j < 256
low_first i zero n j = lit< tt
low_first i (suc k) n zero = byte-lt i n
low_first i (suc k) n (suc j) = low_first (suc i) k n j

-- a mask is of bytes
mask_bytes : (t : ℕ) → AreBytes (to_le_bytes w128 t)
mask_bytes t = record { at = low_first 0 16 t }

-- the length of a sealed block
pub length-sealed : (key block : List ℕ) (t : ℕ) → length (sealed_under key t block) ≡ 16
unfolding sealed_under
length-sealed key block t = length-xor_block _ _

-- the length of an opened block
pub length-opened : (key block : List ℕ) (t : ℕ) → length (opened_under key t block) ≡ 16
unfolding opened_under
length-opened key block t = length-xor_block _ _

-- a sealed block, opened
block_undone : (key block : List ℕ) (t : ℕ) → AreBytes key → IsState block → opened_under key t (sealed_under key t block) ≡ block
unfolding sealed_under opened_under
block_undone key block t k h =
    let m = to_le_bytes w128 t in
    let masked = xor_block-state block m h.bytes (mask_bytes t) in
    ap (λ (s : List ℕ). xor_block (AesInverse key s) m) (xor_block_undone (Aes key (xor_block block m)) m (aes-state key _ k masked).long)
    ∙ ap (λ (s : List ℕ). xor_block s m) (aes_undone key _ k masked)
    ∙ xor_block_undone block m h.long

-- an opened block, sealed
block_redone : (key block : List ℕ) (t : ℕ) → AreBytes key → IsState block → sealed_under key t (opened_under key t block) ≡ block
unfolding sealed_under opened_under
block_redone key block t k h =
    let m = to_le_bytes w128 t in
    let masked = xor_block-state block m h.bytes (mask_bytes t) in
    ap (λ (s : List ℕ). xor_block (Aes key s) m) (xor_block_undone (AesInverse key (xor_block block m)) m (inverse-state key _ k masked).long)
    ∙ ap (λ (s : List ℕ). xor_block s m) (aes_redone key _ k masked)
    ∙ xor_block_undone block m h.long

-- ---- a unit undone

module _ (f g : ℕ → List ℕ → List ℕ) (long : (j : ℕ) (s : List ℕ) → length (f j s) ≡ 16) (undone : (j : ℕ) (s : List ℕ) → IsState s → g j (f j s) ≡ s) where
  -- a unit whose blocks are undone
  unit_undone : (xs : List ℕ) → AreBytes xs → length xs % 16 ≡ 0
      → (let ys = joined (λ j. f j (block_at xs j)) (length xs / 16) in joined (λ j. g j (block_at ys j)) (length ys / 16) ≡ xs)
  unit_undone xs bytes h =
      let n = length xs / 16 in
      let ys = joined (λ j. f j (block_at xs j)) n in
      let whole : length xs ≡ 16 * n = omega arith in
      let longer : length ys ≡ 16 * n = length-joined (λ j. f j (block_at xs j)) n (λ j. long j (block_at xs j)) in
      let same : length ys / 16 ≡ n = omega arith in
      let each : (j : ℕ) → j < n → g j (block_at ys j) ≡ block_at xs j =
      λ j low. ap (g j) (block_at-joined (λ j. f j (block_at xs j)) n j (λ j. long j (block_at xs j)) low)
      ∙ undone j (block_at xs j) (record { long = length-block_at xs n j whole low; bytes = bytes-block_at xs j bytes }) in
      ap (joined (λ j. g j (block_at ys j))) same
      ∙ same_joined (λ j. g j (block_at ys j)) (block_at xs) n each
      ∙ joined-blocks xs h

-- a sealed unit, opened
pub seal_undone : (key : List ℕ) (unit : ℕ) (xs : List ℕ) → AreBytes (block_key key) → AreBytes xs → length xs % 16 ≡ 0 → XtsOpen key unit (XtsSeal key unit xs) ≡ xs
unfolding XtsOpen XtsSeal sealed_block opened_block
seal_undone key unit xs k bytes h =
    let t : ℕ → ℕ = λ j. alpha_times j (tweak_of key unit) in
    unit_undone (λ j s. sealed_under (block_key key) (t j) s) (λ j s. opened_under (block_key key) (t j) s)
    (λ j s. length-sealed (block_key key) s (t j)) (λ j s state. block_undone (block_key key) s (t j) k state) xs bytes h

-- an opened unit, sealed
pub open_undone : (key : List ℕ) (unit : ℕ) (xs : List ℕ) → AreBytes (block_key key) → AreBytes xs → length xs % 16 ≡ 0 → XtsSeal key unit (XtsOpen key unit xs) ≡ xs
unfolding XtsOpen XtsSeal sealed_block opened_block
open_undone key unit xs k bytes h =
    let t : ℕ → ℕ = λ j. alpha_times j (tweak_of key unit) in
    unit_undone (λ j s. opened_under (block_key key) (t j) s) (λ j s. sealed_under (block_key key) (t j) s)
    (λ j s. length-opened (block_key key) s (t j)) (λ j s state. block_redone (block_key key) s (t j) k state) xs bytes h
