-- The first two blocks of each lane, and the last of all lanes.
use Rattle.std.proofs.Common.{◌≡◌, ◌≢◌, ℕ, ◌+◌, ◌-◌, ◌*◌, ◌%◌, ◌<◌, ◌≤◌, List, [], ◌∷◌, get_or, length, max, slice_set, refl, sym, ap, ◌∙◌, arith, inl, inr, add-one}
use Rattle.std.proofs.lemmas.List.FromFn.{get_or-map-range_with_len}
use Rattle.std.proofs.lemmas.List.{get_or-set_same, get_or-set_other, length-set}
use Rattle.std.proofs.lemmas.Bool.{cases_lt}
use Rattle.std.proofs.Math.Nat.{add-mul-mod_self_right, mod-eq_of_lt, mul-le-mul_right}
use Rattle.luks_argon2.specs.Argon2.{first_block, first_lanes, last_xored}
use Rattle.luks_argon2.specs.BlockCompression.{xor_blocks}
use Rattle.luks_argon2.specs.Memory.{HoldsLane}
use Rattle.luks_argon2.proofs.SegmentFacts.{rows_apart}

-- the memory holds the first two blocks of each lane
pub lanes_started : (memory : List (List ℕ)) (digest : List ℕ) (q p g : ℕ) → q ≡ 4 * g → 2 ≤ g
    → ((k : ℕ) → k < p → (get_or memory (k * q + 0) [] ≡ first_block digest 0 k) × (get_or memory (k * q + 1) [] ≡ first_block digest 1 k))
    → (l : ℕ) → l < p → (length (get_or (first_lanes digest p) l []) ≡ max 2 (0 * g))
    × HoldsLane memory q l (get_or (first_lanes digest p) l []) (0 * g - 4 * g) (max 2 (0 * g))
unfolding first_lanes
lanes_started memory digest q p g eq two at l inside =
    let f : ℕ → List (List ℕ) = λ l. first_block digest 0 l ∷ first_block digest 1 l ∷ [] in
    let lane = get_or-map-range_with_len f 0 p l l [] inside (omega arith) in
    let e : max 2 (0 * g) ≡ 2 = omega arith in
    rw (lane, e) (
      refl,
      λ n from to. elim (cases_lt n 1) [
        | inl a ↦
            let z : 0 ≡ n = omega arith in
            let r : 0 % q ≡ 0 = mod-eq_of_lt (omega arith) in
            rw (← z, r) (at l inside).0
        | inr b ↦
            let o : 1 ≡ n = omega arith in
            let r : 1 % q ≡ 1 = mod-eq_of_lt (omega arith) in
            rw (← o, r) (at l inside).1
      ],
    )

-- one lane more has its first two blocks
pub started_next : (memory : List (List ℕ)) (digest : List ℕ) (q l x y : ℕ) (b c : List ℕ) → 8 ≤ q → l * q + 1 < length memory
    → x ≡ l * q + 0 % q → y ≡ l * q + 1 % q → b ≡ first_block digest 0 l → c ≡ first_block digest 1 l
    → ((k : ℕ) → k < l → (get_or memory (k * q + 0) [] ≡ first_block digest 0 k) × (get_or memory (k * q + 1) [] ≡ first_block digest 1 k))
    → (k : ℕ) → k < l + 1 → (get_or (slice_set (slice_set memory x b) y c) (k * q + 0) [] ≡ first_block digest 0 k)
    × (get_or (slice_set (slice_set memory x b) y c) (k * q + 1) [] ≡ first_block digest 1 k)
started_next memory digest q l x y b c many fits ex ey eb ec at k lt =
    let r0 : 0 % q ≡ 0 = mod-eq_of_lt (omega arith) in
    let r1 : 1 % q ≡ 1 = mod-eq_of_lt (omega arith) in
    let px : x ≡ l * q + 0 = rw r0 at ex in
    let py : y ≡ l * q + 1 = rw r1 at ey in
    rw (px, py) (elim (cases_lt k l) [
      | inl a ↦
          let ne : k ≢ l = λ e. omega (arith, a, e) in (
            get_or-set_other _ (l * q + 1) (k * q + 0) c [] (λ e. rows_apart q k l 0 1 ne (omega arith) (omega arith) e)
                ∙ get_or-set_other memory (l * q + 0) (k * q + 0) b [] (λ e. rows_apart q k l 0 0 ne (omega arith) (omega arith) e) ∙ (at k a).0,
            get_or-set_other _ (l * q + 1) (k * q + 1) c [] (λ e. rows_apart q k l 1 1 ne (omega arith) (omega arith) e)
                ∙ get_or-set_other memory (l * q + 0) (k * q + 1) b [] (λ e. rows_apart q k l 1 0 ne (omega arith) (omega arith) e) ∙ (at k a).1,
          )
      | inr h ↦
          let e : l ≡ k = omega arith in
          let long : length (slice_set memory (l * q + 0) b) ≡ length memory = length-set memory (l * q + 0) b in
          rw (← e) (
            get_or-set_other _ (l * q + 1) (l * q + 0) c [] (λ e. omega (arith, e)) ∙ get_or-set_same memory (l * q + 0) b [] (omega arith) ∙ eb,
            get_or-set_same _ (l * q + 1) c [] (omega (arith, long, fits)) ∙ ec,
          )
    ])

-- the last block of a lane is the last place of its row
last_place : (n g : ℕ) → 2 ≤ g → 1 ≤ n → 4 * n * g - 1 ≡ 4 * g - 1 + (n - 1) * (4 * g)
last_place n g two some =
    let e : n - 1 + 1 ≡ n = omega arith in
    let h : (n - 1 + 1) * g ≡ n * g = ap (λ (k : ℕ). k * g) e in
    omega (arith, h)

-- the last block of one lane more
pub last_next : (memory : List (List ℕ)) (lanes : List (List (List ℕ))) (q g l n place : ℕ) (last next : List ℕ) → q ≡ 4 * g → 2 ≤ g → 1 ≤ n
    → (length (get_or lanes l []) ≡ max 2 (4 * n * g)) × HoldsLane memory q l (get_or lanes l []) (4 * n * g - 4 * g) (max 2 (4 * n * g))
    → place ≡ l * q + (4 * g - 1) % q → last ≡ last_xored lanes l → next ≡ xor_blocks last (get_or memory place [])
    → next ≡ last_xored lanes (l + 1)
unfolding last_xored
last_next memory lanes q g l n place last next eq two some held ep el en =
    let lane : List (List ℕ) = get_or lanes l [] in
    let m : ℕ = 4 * n * g - 1 in
    let h : 4 * 1 * g ≤ 4 * n * g = mul-le-mul_right g (omega arith) in
    let enough : 4 * g ≤ 4 * n * g = omega (arith, h) in
    let whole : max 2 (4 * n * g) ≡ 4 * n * g = omega (arith, enough) in
    let long = held.0 in
    let at : length lane - 1 ≡ m = omega (arith, long, whole) in
    let split : 4 * n * g - 1 ≡ 4 * g - 1 + (n - 1) * (4 * g) = last_place n g two some in
    let ring : (4 * g - 1) % q ≡ m % q = rw eq (sym (ap (λ (k : ℕ). k % (4 * g)) split ∙ add-mul-mod_self_right (4 * g - 1) (n - 1) (4 * g))) in
    let block : get_or memory place [] ≡ get_or lane (length lane - 1) [] =
    ap (λ (k : ℕ). get_or memory k []) (ep ∙ ap (λ (r : ℕ). l * q + r) ring) ∙ held.1 m (omega (arith, enough)) (omega (arith, enough, whole)) ∙ rw at refl in
    rw (add-one, ← block, ← el) en
