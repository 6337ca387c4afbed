-- The loops over the blocks of a unit, and the key of two halves.
use Rattle.std.proofs.Common.{◌≡◌, ℕ, suc, ◌+◌, ◌-◌, ◌*◌, ◌/◌, ◌%◌, ◌^◌, ◌≤◌, List, ◌++◌, length, take, drop, sym, ap, ap₂, ◌∙◌, refl, arith}
use Rattle.std.proofs.lemmas.List.{length-append, take_all, drop_at, take_at, drop-drop}
use Rattle.std.proofs.lemmas.Slice.{take-put_mid, drop-put_mid}
use borrow.Rule.Slice.PartMut.{put_mid}
use Rattle.luks_aes.specs.Polynomial.{poly_rem}
use Rattle.luks_modes.specs.Xts.{alpha_times, block_key, tweak_key, tweak_of, sealed_under, opened_under, sealed_block, opened_block, block_at, joined, XtsSeal, XtsOpen}
use Rattle.luks_modes.specs.Blocks.{sealed_blocks, opened_blocks}
use Rattle.luks_modes.proofs.AlphaFacts.{alpha_times-zero, alpha_times_more}

-- ---- the halves of a key

module _ (first second : List ℕ) (same : length first ≡ length second) where
  -- where the first half ends
  half : length (first ++ second) / 2 ≡ length first
  half = omega (arith, length-append first second)

  -- the first half
  pub block_key_is : block_key (first ++ second) ≡ first
  unfolding block_key
  block_key_is = ap (λ (n : ℕ). take n (first ++ second)) half ∙ take_at first second (length first) refl

  -- the second half
  pub tweak_key_is : tweak_key (first ++ second) ≡ second
  unfolding tweak_key
  tweak_key_is = ap (λ (n : ℕ). drop n (first ++ second)) half ∙ drop_at first second (length first) refl

-- ---- one block more in a loop

-- what is left after a part more
pub left_past : (at k end : ℕ) (old now made : List ℕ) → end ≡ at + k → end ≤ length now → length made ≡ k
    → drop at now ≡ drop at old → drop end (put_mid at k now made) ≡ drop end old
left_past at k end old now made past room long same =
    drop-put_mid at k now made end (omega arith) (omega arith) long
    ∙ ap (λ (n : ℕ). drop n now) past
    ∙ sym (drop-drop k at now)
    ∙ ap (drop k) same
    ∙ drop-drop k at old
    ∙ ap (λ (n : ℕ). drop n old) (sym past)

-- a loop over a unit: the blocks before j are f's of the old ones, each under its own tweak, the rest
-- is left, and the tweak is that of block j
pub record IsUnderWay (f : ℕ → List ℕ → List ℕ) (first : ℕ) (old now : List ℕ) (tweak j : ℕ) : Type 0 where
  pub tweak_is : tweak ≡ alpha_times j first
  pub made : take (16 * j) now ≡ joined (λ k. f (alpha_times k first) (block_at old k)) j
  pub left : drop (16 * j) now ≡ drop (16 * j) old

-- before the first block
pub under_way_start : (f : ℕ → List ℕ → List ℕ) (first : ℕ) (old : List ℕ) → IsUnderWay f first old old first 0
unfolding joined
under_way_start f first old = record { tweak_is = sym (alpha_times-zero first); made = refl; left = refl }

-- one block more
pub under_way_more : (f : ℕ → List ℕ → List ℕ) → ((t : ℕ) (s : List ℕ) → length (f t s) ≡ 16)
    → (first : ℕ) (old now new : List ℕ) (tweak next j : ℕ) → 16 * j + 16 ≤ length now
    → IsUnderWay f first old now tweak j
    → new ≡ f tweak (take (16 * j + 16 - 16 * j) (drop (16 * j) now))
    → next ≡ poly_rem (2 ^ 128 + 0x87) 128 1 (tweak * 2)
    → IsUnderWay f first old (put_mid (16 * j) (16 * j + 16 - 16 * j) now new) next (j + 1)
unfolding joined block_at
under_way_more f long first old now new tweak next j room h is doubled =
    let each : ℕ → List ℕ = λ k. f (alpha_times k first) (block_at old k) in
    let size : length new ≡ 16 = ap length is ∙ long tweak _ in
    let block : 16 * j + 16 - 16 * j ≡ 16 = omega arith in
    let same : new ≡ each j =
    is ∙ ap (λ (t : ℕ). f t (take (16 * j + 16 - 16 * j) (drop (16 * j) now))) h.tweak_is
    ∙ ap₂ (λ (n : ℕ) (s : List ℕ). f (alpha_times j first) (take n s)) block h.left in
    let more : suc j ≡ j + 1 = omega arith in
    record {
      tweak_is = doubled ∙ ap (λ (t : ℕ). poly_rem (2 ^ 128 + 0x87) 128 1 (t * 2)) h.tweak_is ∙ alpha_times_more j first;
      made = take-put_mid (16 * j) (16 * j + 16 - 16 * j) now new (16 * (j + 1)) (omega arith) (omega arith)
          ∙ ap₂ (λ (a b : List ℕ). a ++ b) h.made same
          ∙ ap (joined each) more;
      left = left_past (16 * j) (16 * j + 16 - 16 * j) (16 * (j + 1)) old now new (omega arith) (omega arith) (omega (arith, size)) h.left;
    }

-- the whole unit
pub under_way_end : (f : ℕ → List ℕ → List ℕ) (first : ℕ) (old now : List ℕ) (tweak j : ℕ)
    → j ≡ length old / 16 → length now ≡ length old → length old % 16 ≡ 0 → IsUnderWay f first old now tweak j
    → now ≡ joined (λ k. f (alpha_times k first) (block_at old k)) (length old / 16)
under_way_end f first old now tweak j end long whole h =
    sym (take_all (16 * j) now (omega arith)) ∙ h.made ∙ ap (joined (λ k. f (alpha_times k first) (block_at old k))) end

-- the unit of a key whose first half is known
pub sealed_unit : (key first : List ℕ) (unit : ℕ) (bytes : List ℕ) → first ≡ block_key key
    → sealed_blocks first (tweak_of key unit) bytes (length bytes / 16) ≡ XtsSeal key unit bytes
unfolding sealed_blocks XtsSeal sealed_block
sealed_unit key first unit bytes half =
    ap (λ (k : List ℕ). joined (λ j. sealed_under k (alpha_times j (tweak_of key unit)) (block_at bytes j)) (length bytes / 16)) half

-- the same of an opened unit
pub opened_unit : (key first : List ℕ) (unit : ℕ) (bytes : List ℕ) → first ≡ block_key key
    → opened_blocks first (tweak_of key unit) bytes (length bytes / 16) ≡ XtsOpen key unit bytes
unfolding opened_blocks XtsOpen opened_block
opened_unit key first unit bytes half =
    ap (λ (k : List ℕ). joined (λ j. opened_under k (alpha_times j (tweak_of key unit)) (block_at bytes j)) (length bytes / 16)) half
