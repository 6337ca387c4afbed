-- The next block of a lane, from a memory that holds the lanes.
use Rattle.std.proofs.Common.{◌≡◌, ◌≢◌, ℕ, ◌+◌, ◌-◌, ◌*◌, ◌/◌, ◌%◌, ◌<◌, ◌≤◌, List, [], ◌∷◌, ◌++◌, get_or, length, slice_index, slice_set, max, nat_eq, add-one, true, false, refl, sym, ap, ◌∙◌, arith, inl, inr}
use Rattle.std.specs.Prelude.{if◌then◌else◌}
use Rattle.std.proofs.lemmas.Bool.{lt-ltb, le-ltb, eq-eqb, ne_eqb, cases_eq, cases_lt}
use Rattle.std.proofs.Math.Nat.{add-mod_right, div-add-mod, mod-lt, mul-le-mul_left, mul-le-mul_right}
use Rattle.std.proofs.lemmas.List.{get_or-set_same, get_or-set_other, get_or_append_left, get_or_push, length_push}
use Rattle.luks_argon2.specs.Argon2.{Work, address_block, extended, is_independent, next_block, pair}
use Rattle.luks_argon2.specs.Indexing.{reference, window_start}
use Rattle.luks_argon2.specs.Memory.{HasPairs, HasPairsBefore, HoldsLane}
use Rattle.luks_argon2.specs.BlockCompression.{compressed, xor_blocks}

-- the block that is referred to
pub reference_held : (memory own : List (List ℕ)) (lanes : List (List (List ℕ))) (q p s g l k m n : ℕ)
    → HoldsLane memory q l own (n - q) n
    → ((k : ℕ) → k < p → k ≢ l → HoldsLane memory q k (get_or lanes k []) (window_start s g) (s * g))
    → k < p → window_start s g ≤ m → n - q ≤ m → (k ≡ l → m < n) → (k ≢ l → m < s * g)
    → get_or memory (k * q + m % q) [] ≡ get_or (if nat_eq k l then own else get_or lanes k []) m []
reference_held memory own lanes q p s g l k m n mine others inside from near below_own below_other = elim (cases_eq k l) [
  | inl e ↦ rw (eq-eqb k l e) (rw (← e) at (mine m near (below_own e)))
  | inr ne ↦ rw (ne_eqb k l ne) (others k inside ne m from (below_other ne))
]

-- the next block in the first pass
pub next_first : (w : Work) (lanes : List (List (List ℕ))) (own : List (List ℕ)) (s l i j : ℕ) (at : ℕ × ℕ) (previous there made : List ℕ)
    → s < 4
    → j ≡ pair w s l i (get_or own (s * w.segment + i - 1) [])
    → at ≡ reference s w.segment w.lanes l i j
    → previous ≡ get_or own (s * w.segment + i - 1) []
    → there ≡ get_or (if nat_eq at.0 l then own else get_or lanes at.0 []) at.1 []
    → made ≡ compressed previous there
    → made ≡ next_block w lanes own s l i
unfolding next_block
next_first w lanes own s l i j at previous there made few ej ea ep et em =
    rw (← ej, ← ea, ← ep, ← et, lt-ltb s 4 few) em

-- the next block in a later pass
pub next_later : (w : Work) (lanes : List (List (List ℕ))) (own : List (List ℕ)) (s l i j : ℕ) (at : ℕ × ℕ) (previous there made old next : List ℕ)
    → 4 ≤ s
    → j ≡ pair w s l i (get_or own (s * w.segment + i - 1) [])
    → at ≡ reference s w.segment w.lanes l i j
    → previous ≡ get_or own (s * w.segment + i - 1) []
    → there ≡ get_or (if nat_eq at.0 l then own else get_or lanes at.0 []) at.1 []
    → made ≡ compressed previous there
    → old ≡ get_or own (s * w.segment + i - 4 * w.segment) []
    → next ≡ xor_blocks made old
    → next ≡ next_block w lanes own s l i
unfolding next_block
next_later w lanes own s l i j at previous there made old next many ej ea ep et em eo en =
    rw (← ej, ← ea, ← ep, ← et, le-ltb s 4 many, ← em, ← eo) en

-- one round of the ring later
pub round_again : (n q : ℕ) → q ≤ n → n % q ≡ (n - q) % q
round_again n q le =
    let e : n - q + q ≡ n = omega arith in
    sym (rw e at (sym (add-mod_right (n - q) q)))

-- from the second pass on, a whole lane lies before a slice
pub four_at_least : (s g : ℕ) → 4 ≤ s → 4 * g ≤ s * g
four_at_least s g le = mul-le-mul_right g le

-- two numbers less than q apart differ modulo q
pub mod_apart : (q a b : ℕ) → a < b → b < a + q → a % q ≡ b % q → ⊥
mod_apart q a b lt near same =
    let x : ℕ = a / q in
    let y : ℕ = b / q in
    let ea : q * x + a % q ≡ a = div-add-mod a q in
    let eb : q * y + b % q ≡ b = div-add-mod b q in
    elim (cases_lt y (x + 1)) [
      | inl below ↦
          let h : q * y ≤ q * x = mul-le-mul_left q (omega arith) in
          omega (arith, ea, eb, h, same)
      | inr above ↦
          let le : x + 1 ≤ y = omega arith in
          let h : q * (x + 1) ≤ q * y = mul-le-mul_left q le in
          omega (arith, ea, eb, h, same)
    ]

-- places of two rows of q differ
pub rows_apart : (q k l r t : ℕ) → k ≢ l → r < q → t < q → k * q + r ≡ l * q + t → ⊥
rows_apart q k l r t ne small few same = elim (cases_lt k l) [
  | inl below ↦
      let h : (k + 1) * q ≤ l * q = mul-le-mul_right q (omega arith) in
      omega (arith, h, same)
  | inr above ↦
      let le : l + 1 ≤ k = omega (arith, ne) in
      let h : (l + 1) * q ≤ k * q = mul-le-mul_right q le in
      omega (arith, h, same)
]

-- the ring of a lane, one block later
pub ring_next : (memory own : List (List ℕ)) (q l n : ℕ) (b : List ℕ) → 0 < q → l * q + n % q < length memory → length own ≡ n
    → HoldsLane memory q l own (n - q) n
    → HoldsLane (slice_set memory (l * q + n % q) b) q l (own ++ b ∷ []) (n + 1 - q) (n + 1)
ring_next memory own q l n b some fits long held m from to = elim (cases_lt m n) [
  | inl before ↦
      let apart : l * q + m % q ≡ l * q + n % q → ⊥ = λ e. mod_apart q m n before (omega arith) (omega (arith, e)) in
      get_or-set_other memory (l * q + n % q) (l * q + m % q) b [] apart
      ∙ held m (omega arith) before
      ∙ sym (get_or_append_left own (b ∷ []) [] m (omega (arith, long)))
  | inr here ↦
      let e : n ≡ m = omega arith in
      rw (← e) (get_or-set_same memory (l * q + n % q) b [] fits ∙ sym (get_or_push own b [] n long))
]

-- the pair that is read from the block of addresses
pub pair_made : (w : Work) (s l i : ℕ) (previous pairs : List ℕ) (word : ℕ) → is_independent w.variant s ≡ true
    → HasPairs w s l i pairs → word ≡ slice_index pairs (i % 128) → word ≡ pair w s l i previous
unfolding pair
pair_made w s l i previous pairs word free made e = rw free (e ∙ ap (λ (b : List ℕ). slice_index b (i % 128)) (made free))

-- the pair that is read from the block before
pub pair_read : (w : Work) (s l i : ℕ) (previous : List ℕ) (word : ℕ) → is_independent w.variant s ≡ false
    → word ≡ slice_index previous 0 → word ≡ pair w s l i previous
unfolding pair
pair_read w s l i previous word bound e = rw bound e

-- the others as they are while a lane is filled
pub others_kept : (memory first : List (List ℕ)) (lanes : List (List (List ℕ))) (q p s g l : ℕ) → 0 < q
    → ((k r : ℕ) → k ≢ l → r < q → get_or memory (k * q + r) [] ≡ get_or first (k * q + r) [])
    → ((k : ℕ) → k < p → k ≢ l → HoldsLane first q k (get_or lanes k []) (window_start s g) (s * g))
    → (k : ℕ) → k < p → k ≢ l → HoldsLane memory q k (get_or lanes k []) (window_start s g) (s * g)
others_kept memory first lanes q p s g l some kept others k inside ne m from below =
    kept k (m % q) ne (mod-lt m some) ∙ others k inside ne m from below

-- a write to a place of lane l changes no other lane
pub kept_next : (memory first : List (List ℕ)) (q l t : ℕ) (b : List ℕ) → t < q
    → ((k r : ℕ) → k ≢ l → r < q → get_or memory (k * q + r) [] ≡ get_or first (k * q + r) [])
    → (k r : ℕ) → k ≢ l → r < q → get_or (slice_set memory (l * q + t) b) (k * q + r) [] ≡ get_or first (k * q + r) []
kept_next memory first q l t b small kept k r ne few =
    get_or-set_other memory (l * q + t) (k * q + r) b [] (λ e. rows_apart q k l r t ne few small e) ∙ kept k r ne few

-- the lane has one block more
extended_more : (w : Work) (lanes : List (List (List ℕ))) (s l i : ℕ) → 2 ≤ s * w.segment + i
    → extended w lanes s l (i + 1) ≡ extended w lanes s l i ++ next_block w lanes (extended w lanes s l i) s l i ∷ []
unfolding extended
extended_more w lanes s l i many = rw (add-one, le-ltb (s * w.segment + i) 2 many) refl

-- the first two blocks were there
extended_same : (w : Work) (lanes : List (List (List ℕ))) (s l i : ℕ) → s * w.segment + i < 2
    → extended w lanes s l (i + 1) ≡ extended w lanes s l i
unfolding extended
extended_same w lanes s l i few = rw (add-one, lt-ltb (s * w.segment + i) 2 few) refl

-- the lane before the slice
pub extended_none : (w : Work) (lanes : List (List (List ℕ))) (s l : ℕ) → extended w lanes s l 0 ≡ get_or lanes l []
unfolding extended
extended_none w lanes s l = refl

-- a lane and its ring, one block later
pub segment_next : (w : Work) (lanes : List (List (List ℕ))) (memory next : List (List ℕ)) (q s l i : ℕ) → 0 < q
    → 2 ≤ s * w.segment + i
    → l * q + (s * w.segment + i) % q < length memory
    → (length (extended w lanes s l i) ≡ max 2 (s * w.segment + i))
    → HoldsLane memory q l (extended w lanes s l i) (s * w.segment + i - q) (max 2 (s * w.segment + i))
    → next ≡ slice_set memory (l * q + (s * w.segment + i) % q) (next_block w lanes (extended w lanes s l i) s l i)
    → (length (extended w lanes s l (i + 1)) ≡ max 2 (s * w.segment + (i + 1)))
    × HoldsLane next q l (extended w lanes s l (i + 1)) (s * w.segment + (i + 1) - q) (max 2 (s * w.segment + (i + 1)))
segment_next w lanes memory next q s l i some many fits long held en =
    let n : ℕ = s * w.segment + i in
    let b : List ℕ = next_block w lanes (extended w lanes s l i) s l i in
    let later : s * w.segment + (i + 1) ≡ n + 1 = omega arith in
    let e0 : max 2 n ≡ n = omega arith in
    let e1 : max 2 (n + 1) ≡ n + 1 = omega arith in
    let more : extended w lanes s l (i + 1) ≡ extended w lanes s l i ++ b ∷ [] = extended_more w lanes s l i many in
    let len : length (extended w lanes s l i ++ b ∷ []) ≡ n + 1 = omega (arith, length_push (extended w lanes s l i) b, long) in
    let ring = ring_next memory (extended w lanes s l i) q l n b some fits (long ∙ e0) (λ m from to. held m from (omega (arith, e0))) in
    rw (later, e1, more, en) (len, ring)

-- the first two blocks of a lane are passed over
pub segment_waits : (w : Work) (lanes : List (List (List ℕ))) (memory : List (List ℕ)) (q s l i : ℕ)
    → s * w.segment + i < 2
    → (length (extended w lanes s l i) ≡ max 2 (s * w.segment + i))
    → HoldsLane memory q l (extended w lanes s l i) (s * w.segment + i - q) (max 2 (s * w.segment + i))
    → (length (extended w lanes s l (i + 1)) ≡ max 2 (s * w.segment + (i + 1)))
    × HoldsLane memory q l (extended w lanes s l (i + 1)) (s * w.segment + (i + 1) - q) (max 2 (s * w.segment + (i + 1)))
segment_waits w lanes memory q s l i few long held =
    let same : extended w lanes s l (i + 1) ≡ extended w lanes s l i = extended_same w lanes s l i few in
    let e : max 2 (s * w.segment + (i + 1)) ≡ max 2 (s * w.segment + i) = omega arith in
    rw (same, e) (long, λ m from to. held m (omega (arith, from)) to)

-- a place of a lane's row is a place of the memory
pub place_fits : (l p g t : ℕ) → l < p → t < 4 * g → l * (4 * g) + t < 4 * (p * g)
place_fits l p g t inside small =
    let h : (l + 1) * g ≤ p * g = mul-le-mul_right g (omega arith) in
    omega (arith, h)

-- the addresses last until 128 of them are used
pub pairs_next : (w : Work) (s l i : ℕ) (pairs : List ℕ) → HasPairs w s l i pairs → HasPairsBefore w s l (i + 1) pairs
pairs_next w s l i pairs made free more =
    let e : i / 128 + 1 ≡ (i + 1) / 128 + 1 = omega (arith, more) in
    made free ∙ ap (λ (k : ℕ). address_block w s l k) e
