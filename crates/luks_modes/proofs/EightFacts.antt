-- Eight blocks of a unit at a time.
use Rattle.std.proofs.Common.{◌≡◌, ℕ, zero, suc, ◌+◌, ◌-◌, ◌*◌, ◌/◌, ◌%◌, ◌^◌, ◌≤◌, List, ◌++◌, length, take, drop, slice_index, sym, subst, ap, ap₂, ◌∙◌, refl, arith}
use Rattle.std.specs.Int.Bits.{bit_xor}
use Rattle.std.specs.Simd.Lanes.{zip2}
use Rattle.std.proofs.lemmas.Simd.{length-zip2}
use Rattle.std.proofs.lemmas.List.FromFn.{fill_by_all}
use Rattle.std.proofs.lemmas.List.{length-take-le, length-drop, take_all, drop-drop, drop-take, take-take, append-nil, append_assoc}
use Rattle.std.proofs.lemmas.Slice.{take-put_mid}
use borrow.Rule.Slice.PartMut.{put_mid, same_len_mid}
use Rattle.luks_aes.specs.Polynomial.{poly_rem}
use Rattle.luks_modes.specs.Xts.{alpha_times, block_at, joined, xor_block}
use Rattle.luks_modes.proofs.AlphaFacts.{alpha_times-zero, alpha_times_more}
use Rattle.luks_modes.proofs.UnitFacts.{same_joined, length-joined}
use Rattle.luks_modes.proofs.UnitLoopFacts.{IsUnderWay, left_past}
use Rattle.luks_aes.proofs.GateFacts.{lane_zip}

-- the exclusive or of two vectors is that of two blocks
pub xor_block_of : (x y : List ℕ) → length x ≡ 16 → length y ≡ 16 → zip2 bit_xor x y ≡ xor_block x y
unfolding xor_block
xor_block_of x y lx ly =
    fill_by_all (λ k. bit_xor (slice_index x k) (slice_index y k)) (zip2 bit_xor x y) 16 0 (length-zip2 bit_xor x y (lx ∙ sym ly) ∙ lx) (λ k h. lane_zip bit_xor x y lx ly k h)

-- one tweak more
pub next_tweak : (t next first j : ℕ) → next ≡ poly_rem (2 ^ 128 + 0x87) 128 1 (t * 2) → t ≡ alpha_times j first → next ≡ alpha_times (j + 1) first
next_tweak t next first j h is = h ∙ ap (λ (x : ℕ). poly_rem (2 ^ 128 + 0x87) 128 1 (x * 2)) is ∙ alpha_times_more j first

-- powers of alpha multiply by adding their exponents
pub alpha-add : (i n t : ℕ) → alpha_times i (alpha_times n t) ≡ alpha_times (n + i) t
alpha-add zero n t =
    let same : n ≡ n + 0 = omega arith in
    alpha_times-zero (alpha_times n t) ∙ ap (λ (k : ℕ). alpha_times k t) same
alpha-add (suc i) n t =
    let more : suc i ≡ i + 1 = omega arith in
    let most : n + i + 1 ≡ n + suc i = omega arith in
    ap (λ (k : ℕ). alpha_times k (alpha_times n t)) more
    ∙ sym (alpha_times_more i (alpha_times n t))
    ∙ ap (λ (x : ℕ). poly_rem (2 ^ 128 + 0x87) 128 1 (x * 2)) (alpha-add i n t)
    ∙ alpha_times_more (n + i) t
    ∙ ap (λ (k : ℕ). alpha_times k t) most

-- the first blocks, and the others after them
pub joined-add : (f : ℕ → List ℕ) (n m : ℕ) → joined f (n + m) ≡ joined f n ++ joined (λ i. f (n + i)) m
unfolding joined
joined-add f n zero =
    let same : n + 0 ≡ n = omega arith in
    ap (joined f) same ∙ sym (append-nil (joined f n))
joined-add f n (suc m) =
    let more : n + suc m ≡ suc (n + m) = omega arith in
    ap (joined f) more
    ∙ ap (λ (xs : List ℕ). xs ++ f (n + m)) (joined-add f n m)
    ∙ append_assoc (joined f n) (joined (λ i. f (n + i)) m) (f (n + m))

-- a block of a part of a unit
block_in_part : (xs : List ℕ) (at n b : ℕ) → 16 * b + 16 ≤ n → block_at (take n (drop (16 * at) xs)) b ≡ block_at xs (at + b)
unfolding block_at
block_in_part xs at n b room =
    let rest : n ≡ 16 * b + (n - 16 * b) = omega arith in
    let place : 16 * at + 16 * b ≡ 16 * (at + b) = omega arith in
    ap (λ (k : ℕ). take 16 (drop (16 * b) (take k (drop (16 * at) xs)))) rest
    ∙ ap (take 16) (drop-take (16 * b) (n - 16 * b) (drop (16 * at) xs))
    ∙ take-take 16 (n - 16 * b) (drop (16 * b) (drop (16 * at) xs)) (omega arith)
    ∙ ap (take 16) (drop-drop (16 * b) (16 * at) xs)
    ∙ ap (λ (k : ℕ). take 16 (drop k xs)) place

-- m blocks more, from the tweak of the first of them
pub under_way_by : (f : ℕ → List ℕ → List ℕ) → ((t : ℕ) (s : List ℕ) → length (f t s) ≡ 16)
    → (first : ℕ) (old now new : List ℕ) (tweak next at end n m : ℕ) → at ≡ 16 * n → end ≡ at + 16 * m → end ≤ length now
    → IsUnderWay f first old now tweak n
    → new ≡ joined (λ b. f (alpha_times b tweak) (block_at (take (end - at) (drop at now)) b)) m
    → next ≡ alpha_times m tweak
    → IsUnderWay f first old (put_mid at (end - at) now new) next (n + m)
under_way_by f long first old now new tweak next at end n m start stop room h is after =
    let each : ℕ → List ℕ = λ k. f (alpha_times k first) (block_at old k) in
    let part = take (end - at) (drop at now) in
    let size : length new ≡ 16 * m = ap length is ∙ length-joined (λ b. f (alpha_times b tweak) (block_at part b)) m (λ b. long (alpha_times b tweak) (block_at part b)) in
    let same : part ≡ take (end - at) (drop (16 * n) old) = ap (λ (k : ℕ). take (end - at) (drop k now)) start ∙ ap (take (end - at)) h.left in
    let blocks : new ≡ joined (λ b. each (n + b)) m =
    is ∙ same_joined (λ b. f (alpha_times b tweak) (block_at part b)) (λ b. each (n + b)) m (λ b low.
    ap₂ f (ap (alpha_times b) h.tweak_is ∙ alpha-add b n first)
    (ap (λ (xs : List ℕ). block_at xs b) same ∙ block_in_part old n (end - at) b (omega arith))) in
    record {
      tweak_is = after ∙ ap (alpha_times m) h.tweak_is ∙ alpha-add m n first;
      made = take-put_mid at (end - at) now new (16 * (n + m)) (omega arith) (omega arith)
          ∙ ap₂ (λ (a b : List ℕ). a ++ b) (ap (λ (k : ℕ). take k now) start ∙ h.made) blocks
          ∙ sym (joined-add each n m);
      left = left_past at (end - at) (16 * (n + m)) old now new (omega arith) (omega arith) (omega (arith, size))
          (ap (λ (k : ℕ). drop k now) start ∙ h.left ∙ ap (λ (k : ℕ). drop k old) (sym start));
    }

-- a unit, with the blocks that were left
pub under_way_whole : (f : ℕ → List ℕ → List ℕ) (first : ℕ) (old now : List ℕ) (tweak n : ℕ) → length now ≡ length old → length old % 16 ≡ 0
    → n ≡ length old / 16 → IsUnderWay f first old now tweak n → now ≡ joined (λ k. f (alpha_times k first) (block_at old k)) (length old / 16)
under_way_whole f first old now tweak n long whole end h =
    sym (take_all (16 * n) now (omega arith)) ∙ h.made ∙ ap (joined (λ k. f (alpha_times k first) (block_at old k))) end

-- m blocks more, up to this many
pub under_way_to : (f : ℕ → List ℕ → List ℕ) → ((t : ℕ) (s : List ℕ) → length (f t s) ≡ 16)
    → (first : ℕ) (old now new : List ℕ) (tweak next at end n m total : ℕ) → at ≡ 16 * n → end ≡ at + 16 * m → end ≤ length now → n + m ≡ total
    → IsUnderWay f first old now tweak n
    → new ≡ joined (λ b. f (alpha_times b tweak) (block_at (take (end - at) (drop at now)) b)) m
    → next ≡ alpha_times m tweak
    → IsUnderWay f first old (put_mid at (end - at) now new) next total
under_way_to f long first old now new tweak next at end n m total start stop room sum h is after =
    subst (λ (k : ℕ). IsUnderWay f first old (put_mid at (end - at) now new) next k) sum
    (under_way_by f long first old now new tweak next at end n m start stop room h is after)

-- the end of a unit, by what is made of the rest
pub under_way_rest : (f : ℕ → List ℕ → List ℕ) → ((t : ℕ) (s : List ℕ) → length (f t s) ≡ 16)
    → (first : ℕ) (old now rest : List ℕ) (tweak j w : ℕ) → length now ≡ length old → length old % 16 ≡ 0 → w ≡ length old / 128 → j ≡ w
    → IsUnderWay f first old now tweak (8 * j)
    → (let part = take (length now - 128 * w) (drop (128 * w) now) in rest ≡ joined (λ b. f (alpha_times b tweak) (block_at part b)) (length part / 16))
    → put_mid (128 * w) (length now - 128 * w) now rest ≡ joined (λ k. f (alpha_times k first) (block_at old k)) (length old / 16)
under_way_rest f long first old now rest tweak j w same whole eighths last h is =
    let part = take (length now - 128 * w) (drop (128 * w) now) in
    let size : length part ≡ length now - 128 * w = length-take-le (length now - 128 * w) (drop (128 * w) now) (omega (arith, length-drop (128 * w) now)) in
    let m = length part / 16 in
    let done = under_way_to f long first old now rest tweak (alpha_times m tweak) (128 * w) (length now) (8 * j) m (length old / 16)
    (omega arith) (omega arith) (omega arith) (omega arith) h is refl in
    let room : length rest ≡ 16 * m = ap length is ∙ length-joined (λ b. f (alpha_times b tweak) (block_at part b)) m (λ b. long (alpha_times b tweak) (block_at part b)) in
    under_way_whole f first old (put_mid (128 * w) (length now - 128 * w) now rest) (alpha_times m tweak) (length old / 16)
    (same_len_mid (128 * w) (length now - 128 * w) now rest (omega arith) ∙ same) whole refl done
