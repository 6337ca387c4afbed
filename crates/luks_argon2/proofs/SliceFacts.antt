-- A slice of all lanes.
use Rattle.std.proofs.Common.{◌≡◌, ◌≢◌, ℕ, zero, suc, ◌+◌, ◌-◌, ◌*◌, ◌%◌, ◌<◌, ◌≤◌, List, [], ◌∷◌, get_or, length, max, refl, ap, ◌∙◌, arith, inl, inr, add-one}
use Rattle.std.proofs.lemmas.List.FromFn.{get_or-map-range_with_len}
use Rattle.std.proofs.lemmas.List.{get_or_append_left, length_push}
use Rattle.std.proofs.lemmas.Bool.{cases_lt, le-ltb, lt-ltb}
use Rattle.std.proofs.Math.Nat.{mod-lt, mul-le-mul_right}
use Rattle.luks_argon2.specs.Argon2.{Work, extended, lanes_before, next_block, slice_added}
use Rattle.luks_argon2.specs.Indexing.{window_start}
use Rattle.luks_argon2.specs.Memory.{HoldsLane}

-- a lane keeps its blocks
pub extended_keeps : (w : Work) (lanes : List (List (List ℕ))) (s l i m : ℕ) → m < length (get_or lanes l [])
    → (get_or (extended w lanes s l i) m [] ≡ get_or (get_or lanes l []) m []) × (m < length (extended w lanes s l i))
unfolding extended
extended_keeps w lanes s l zero m inside = (refl, inside)
extended_keeps w lanes s l (suc i) m inside =
    let own : List (List ℕ) = extended w lanes s l i in
    let b : List ℕ = next_block w lanes own s l i in
    let before = extended_keeps w lanes s l i m inside in
    elim (cases_lt (s * w.segment + i) 2) [
      | inl few ↦ rw (lt-ltb (s * w.segment + i) 2 few) before
      | inr many ↦ rw (le-ltb (s * w.segment + i) 2 many) (
        get_or_append_left own (b ∷ []) [] m before.1 ∙ before.0,
        let h = length_push own b in let lt = before.1 in omega (arith, h, lt),
      )
    ]

-- a lane after a slice
pub slice_added_at : (w : Work) (lanes : List (List (List ℕ))) (s l : ℕ) → l < w.lanes
    → get_or (slice_added w lanes s) l [] ≡ extended w lanes s l w.segment
unfolding slice_added
slice_added_at w lanes s l inside =
    get_or-map-range_with_len (λ l. extended w lanes s l w.segment) 0 w.lanes l l [] inside (omega arith)

-- all lanes, one slice later
pub lanes_before_next : (w : Work) (first : List (List (List ℕ))) (s : ℕ) → lanes_before w first (s + 1) ≡ slice_added w (lanes_before w first s) s
unfolding lanes_before
lanes_before_next w first s = rw add-one refl

-- the three segments before a slice are in a ring that is one slice on
pub start_in_ring : (s g : ℕ) → s * g + g - 4 * g ≤ window_start s g
start_in_ring s g = elim (cases_lt s 3) [
  | inl few ↦
      let h : s * g ≤ 3 * g = mul-le-mul_right g (omega arith) in
      omega (arith, h)
  | inr many ↦
      let e : s - 3 + 3 ≡ s = omega arith in
      let h : (s - 3 + 3) * g ≡ s * g = ap (λ (k : ℕ). k * g) e in
      omega (arith, h)
]

-- they are in the ring before the slice
pub start_in_old_ring : (s g : ℕ) → s * g - 4 * g ≤ window_start s g
start_in_old_ring s g = let h = start_in_ring s g in omega (arith, h)

-- the memory before lane l is filled, where the lanes before it are done and the others are as they were
pub before_lane : (memory first : List (List ℕ)) (w : Work) (lanes : List (List (List ℕ))) (q p s g l : ℕ) → q ≡ 4 * g → w.segment ≡ g → 2 ≤ g → l < p
    → ((k : ℕ) → k < p → (length (get_or lanes k []) ≡ max 2 (s * g)) × HoldsLane first q k (get_or lanes k []) (s * g - 4 * g) (max 2 (s * g)))
    → ((k : ℕ) → k < l → (length (extended w lanes s k g) ≡ s * g + g) × HoldsLane memory q k (extended w lanes s k g) (s * g + g - 4 * g) (s * g + g))
    → ((k r : ℕ) → l ≤ k → r < q → get_or memory (k * q + r) [] ≡ get_or first (k * q + r) [])
    → (length (get_or lanes l []) ≡ max 2 (s * g))
    × HoldsLane memory q l (get_or lanes l []) (s * g - 4 * g) (max 2 (s * g))
    × ((k : ℕ) → k < p → k ≢ l → HoldsLane memory q k (get_or lanes k []) (window_start s g) (s * g))
before_lane memory first w lanes q p s g l eq eg two inside held done kept =
    let some : 0 < q = omega arith in (
      (held l inside).0,
      λ m from to. kept l (m % q) (omega arith) (mod-lt m some) ∙ (held l inside).1 m from to,
      λ k within ne m from to. elim (cases_lt k l) [
        | inl a ↦
            let long = (held k within).0 in
            let near = start_in_ring s g in
            let d : get_or memory (k * q + m % q) [] ≡ get_or (extended w lanes s k g) m [] = (done k a).1 m (omega (arith, near, from)) (omega (arith, to)) in
            d ∙ (extended_keeps w lanes s k g m (omega (arith, long, to))).0
        | inr b ↦
            let near = start_in_old_ring s g in
            kept k (m % q) b (mod-lt m some) ∙ (held k within).1 m (omega (arith, near, from)) (omega (arith, to))
      ],
    )
