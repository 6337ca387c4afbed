-- The loops over the blocks of a sector.
use Rattle.std.proofs.Common.{◌≡◌, ℕ, suc, ◌+◌, ◌-◌, ◌*◌, ◌/◌, ◌%◌, ◌≤◌, List, ◌++◌, length, take, drop, sym, ap, ap₂, ◌∙◌, refl, arith}
use Rattle.std.proofs.lemmas.List.{length-drop, length-take-le, take_all}
use Rattle.std.proofs.lemmas.Slice.{take-put_mid}
use borrow.Rule.Slice.PartMut.{put_mid}
use Rattle.luks_modes.specs.Xts.{block_at, joined}
use Rattle.luks_modes.specs.Cbc.{block_before, cipher_block, plain_block}
use Rattle.luks_modes.proofs.UnitLoopFacts.{left_past}

-- the blocks before j are those of f, and the rest is left
pub record IsUnderWay (f : ℕ → List ℕ) (old now : List ℕ) (j : ℕ) : Type 0 where
  pub made : take (16 * j) now ≡ joined f j
  pub left : drop (16 * j) now ≡ drop (16 * j) old

-- before the first block
pub under_way_start : (f : ℕ → List ℕ) (old : List ℕ) → IsUnderWay f old old 0
unfolding joined
under_way_start f old = record { made = refl; left = refl }

-- one block more
pub under_way_more : (f : ℕ → List ℕ) (old now new : List ℕ) (j : ℕ) → 16 * j + 16 ≤ length now → IsUnderWay f old now j
    → new ≡ f j → length new ≡ 16 → IsUnderWay f old (put_mid (16 * j) (16 * j + 16 - 16 * j) now new) (j + 1)
unfolding joined
under_way_more f old now new j room h is size =
    let more : suc j ≡ j + 1 = omega arith in
    record {
      made = take-put_mid (16 * j) (16 * j + 16 - 16 * j) now new (16 * (j + 1)) (omega arith) (omega arith)
          ∙ ap₂ (λ (a b : List ℕ). a ++ b) h.made is
          ∙ ap (joined f) more;
      left = left_past (16 * j) (16 * j + 16 - 16 * j) (16 * (j + 1)) old now new (omega arith) (omega arith) (omega (arith, size)) h.left;
    }

-- the whole sector
pub under_way_end : (f : ℕ → List ℕ) (old now : List ℕ) (j : ℕ) → j ≡ length old / 16 → length now ≡ length old → length old % 16 ≡ 0
    → IsUnderWay f old now j → now ≡ joined f (length old / 16)
under_way_end f old now j end long whole h =
    sym (take_all (16 * j) now (omega arith)) ∙ h.made ∙ ap (joined f) end

-- the blocks before j are sealed, and the last of them is kept
pub record IsSealing (key iv old now before : List ℕ) (j : ℕ) : Type 0 where
  pub way : IsUnderWay (λ k. cipher_block key iv old (suc k)) old now j
  pub last : before ≡ cipher_block key iv old j

-- the blocks before j are opened, and what the last of them was is kept
pub record IsOpening (key iv old now before : List ℕ) (j : ℕ) : Type 0 where
  pub way : IsUnderWay (plain_block key iv old) old now j
  pub last : before ≡ block_before iv old j

-- block j of what is left
pub block_left : (f : ℕ → List ℕ) (old now : List ℕ) (j : ℕ) → IsUnderWay f old now j
    → take (16 * j + 16 - 16 * j) (drop (16 * j) now) ≡ block_at old j
unfolding block_at
block_left f old now j h =
    let block : 16 * j + 16 - 16 * j ≡ 16 = omega arith in
    ap₂ (λ (n : ℕ) (s : List ℕ). take n s) block h.left

-- it has 16 bytes
pub block_long : (now : List ℕ) (j : ℕ) → 16 * j + 16 ≤ length now → length (take (16 * j + 16 - 16 * j) (drop (16 * j) now)) ≡ 16
block_long now j room =
    let block : 16 * j + 16 - 16 * j ≡ 16 = omega arith in
    length-take-le (16 * j + 16 - 16 * j) (drop (16 * j) now) (omega (arith, length-drop (16 * j) now)) ∙ block
