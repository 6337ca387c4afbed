-- A row of blocks, of which one is written anew.
use Rattle.std.proofs.Common.{◌≡◌, ℕ, zero, suc, ◌+◌, ◌*◌, ◌<◌, ◌≤◌, List, ◌++◌, length, take, drop, refl, ap, ap₂, ◌∙◌, arith, add-one, zero-mul}
use borrow.Rule.Slice.PartMut.{put_mid}
use Rattle.std.proofs.Math.Nat.{mul-le-mul_right}
use Rattle.std.proofs.Math.Seq.{take-add}
use Rattle.std.proofs.lemmas.List.{length-drop, length-take-le, take_all}
use Rattle.luks_lanes.proofs.RowFacts.{part-before, part-after, part-within}
use Rattle.luks_kdf.specs.Derivation.{derived_block, derived_blocks}
use Rattle.luks_kdf.specs.Splitter.{block_at}

-- the blocks before it are as they were
pub block_at-before : (size i j at k : ℕ) (now block : List ℕ) → at ≡ i * size → (i + 1) * size ≤ length now → j < i
    → block_at size (put_mid at k now block) j ≡ block_at size now j
unfolding block_at
block_at-before size i j at k now block is_at room before =
    part-before at k now block size (j * size) (omega (arith, mul-le-mul_right size before, is_at)) (omega (arith, is_at, room))

-- so are those after it
pub block_at-after : (size i j at k : ℕ) (now block : List ℕ) → at ≡ i * size → k ≡ size
    → length block ≡ length (take k (drop at now)) → (i + 1) * size ≤ length now → i < j
    → block_at size (put_mid at k now block) j ≡ block_at size now j
unfolding block_at
block_at-after size i j at k now block is_at is_k same room after =
    let whole : length block ≡ k = same ∙ length-take-le k (drop at now) (omega (arith, length-drop at now, is_at, is_k, room)) in
    part-after at k now block size (j * size) (omega (arith, mul-le-mul_right size after, is_at, is_k)) (omega (arith, is_at, room)) whole

-- the block itself
pub block_at-written : (size i at k : ℕ) (now block : List ℕ) → at ≡ i * size → k ≡ size
    → length block ≡ length (take k (drop at now)) → (i + 1) * size ≤ length now
    → block_at size (put_mid at k now block) i ≡ block
unfolding block_at
block_at-written size i at k now block is_at is_k same room =
    let whole : length block ≡ k = same ∙ length-take-le k (drop at now) (omega (arith, length-drop at now, is_at, is_k, room)) in
    let place : i * size ≡ at + 0 = omega (arith, is_at) in
    ap (λ n. take size (drop n (put_mid at k now block))) place
    ∙ part-within at k now block size 0 (omega (arith, is_k)) (omega (arith, is_at, room)) whole
    ∙ take_all size block (omega (arith, whole, is_k))

-- the block that is read there
pub block_at-read : (size i at k : ℕ) (now : List ℕ) → at ≡ i * size → k ≡ size
    → take k (drop at now) ≡ block_at size now i
unfolding block_at
block_at-read size i at k now is_at is_k = ap (λ n. take n (drop at now)) is_k ∙ ap (λ n. take size (drop n now)) is_at

-- a row of the blocks that are derived
pub derived_row : (prf : List ℕ → List ℕ) (size : ℕ) (salt row : List ℕ) (c n : ℕ)
    → ((i : ℕ) → i < n → block_at size row i ≡ derived_block prf salt c (i + 1))
    → take (n * size) row ≡ derived_blocks prf salt c n
unfolding block_at derived_blocks
derived_row prf size salt row c zero made = rw zero-mul refl
derived_row prf size salt row c (suc n) made =
    let before = derived_row prf size salt row c n (λ i lt. made i (omega (arith, lt))) in
    let last = made n (omega arith) ∙ ap (derived_block prf salt c) (add-one n) in
    let more : suc n * size ≡ n * size + size = omega arith in
    ap (λ k. take k row) more ∙ take-add (n * size) size row ∙ ap₂ (λ (s t : List ℕ). s ++ t) before last
