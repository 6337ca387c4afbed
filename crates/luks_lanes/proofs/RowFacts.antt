-- A row of blocks, of which some are written anew.
use Rattle.std.proofs.Common.{◌≡◌, ℕ, ◌+◌, ◌-◌, ◌*◌, ◌<◌, ◌≤◌, List, ◌++◌, length, take, drop, ap, sym, ◌∙◌, arith, inl, inr}
use borrow.Rule.Slice.PartMut.{put_mid}
use Rattle.std.proofs.lemmas.Slice.{drop-put_mid, take-put_mid_below}
use Rattle.std.proofs.lemmas.Bool.{cases_lt}
use Rattle.std.proofs.lemmas.List.{drop-take, drop-drop, drop-append-le, take-append-le, drop_at, length-take-le, length-drop, take_all, take-take}
use Rattle.std.proofs.Math.Nat.{mul-le-mul_right}
use Rattle.luks_lanes.specs.Turns.{AreTurned, block_at, hmac, turns_xored}

-- a part of a list
abbrev pub part : ℕ → ℕ → List ℕ → List ℕ
part n at xs = take n (drop at xs)

-- before the part that is written
pub part-before : (at k : ℕ) (xs ys : List ℕ) (n m : ℕ) → m + n ≤ at → at ≤ length xs
    → part n m (put_mid at k xs ys) ≡ part n m xs
part-before at k xs ys n m before inside =
    sym (drop-take m n (put_mid at k xs ys))
    ∙ ap (drop m) (take-put_mid_below at k xs ys (m + n) before inside)
    ∙ drop-take m n xs

-- after it
pub part-after : (at k : ℕ) (xs ys : List ℕ) (n m : ℕ) → at + k ≤ m → at ≤ length xs → length ys ≡ k
    → part n m (put_mid at k xs ys) ≡ part n m xs
part-after at k xs ys n m after inside same = ap (take n) (drop-put_mid at k xs ys m after inside same)

-- within it
pub part-within : (at k : ℕ) (xs ys : List ℕ) (n d : ℕ) → d + n ≤ k → at ≤ length xs → length ys ≡ k
    → part n (at + d) (put_mid at k xs ys) ≡ part n d ys
part-within at k xs ys n d within inside same =
    let rest = drop k (drop at xs) in
    let begins : drop at (put_mid at k xs ys) ≡ ys ++ rest = drop_at (take at xs) (ys ++ rest) at (length-take-le at xs inside) in
    ap (take n) (sym (drop-drop d at (put_mid at k xs ys)) ∙ ap (drop d) begins ∙ drop-append-le d ys rest (omega (arith, same)))
    ∙ take-append-le n (drop d ys) rest (omega (arith, same, length-drop d ys))

-- a part of a part
pub part-part : (k : ℕ) (xs : List ℕ) (n d : ℕ) → d + n ≤ k → part n d (take k xs) ≡ part n d xs
part-part k xs n d within =
    sym (drop-take d n (take k xs)) ∙ ap (drop d) (take-take (d + n) k xs within) ∙ drop-take d n xs

-- some blocks more are turned, where they are in the row
pub turned_more : (hash : List ℕ → List ℕ) (size : ℕ) (key : List ℕ) (c n g : ℕ) (old now group : List ℕ) (at k : ℕ)
    → at ≡ n * size → k ≡ g * size → length group ≡ length (take k (drop at now)) → at + k ≤ length now
    → ((d : ℕ) → d < g → block_at size group d ≡ turns_xored (hmac hash key) (block_at size (take k (drop at now)) d) (c - 1))
    → AreTurned hash size key c n old now → AreTurned hash size key c (n + g) old (put_mid at k now group)
turned_more hash size key c n g old now group at k is_at is_k same room made before =
    let len : length group ≡ k = same ∙ length-take-le k (drop at now) (omega (arith, length-drop at now, room)) in
    let inside : at ≤ length now = omega (arith, room) in record {
      turned = λ i below. elim (cases_lt i n) [
        | inl lt ↦
            let product = mul-le-mul_right size lt in
            part-before at k now group size (i * size) (omega (arith, product, is_at)) inside ∙ before.turned i lt
        | inr ge ↦
            let d = i - n in
            let near : d < g = omega arith in
            let product = mul-le-mul_right size near in
            let fits : d * size + size ≤ k = omega (arith, product, is_k) in
            let is_i : n + d ≡ i = omega arith in
            let place : i * size ≡ at + d * size = omega (arith, is_at, ap (λ x. x * size) is_i) in
            let was : block_at size (take k (drop at now)) d ≡ block_at size now i =
            part-part k (drop at now) size (d * size) fits
            ∙ ap (take size) (drop-drop (d * size) at now) ∙ ap (λ p. part size p now) (sym place) in
            ap (λ p. part size p (put_mid at k now group)) place
            ∙ part-within at k now group size (d * size) fits inside len ∙ made d near
            ∙ ap (λ b. turns_xored (hmac hash key) b (c - 1)) (was ∙ before.kept i ge)
      ];
      kept = λ i past.
          let product = mul-le-mul_right size past in
          part-after at k now group size (i * size) (omega (arith, product, is_at, is_k)) inside len
          ∙ before.kept i (omega arith);
    }

-- one value more is written to its place in a row
pub written_more : (size n : ℕ) (value : ℕ → List ℕ) (row group : List ℕ) (at k : ℕ)
    → at ≡ n * size → k ≡ size → length group ≡ length (take k (drop at row)) → at + k ≤ length row
    → ((j : ℕ) → j < n → block_at size row j ≡ value j) → group ≡ value n
    → (j : ℕ) → j < n + 1 → block_at size (put_mid at k row group) j ≡ value j
written_more size n value row group at k is_at is_k same room before made j below =
    let len : length group ≡ k = same ∙ length-take-le k (drop at row) (omega (arith, length-drop at row, room)) in
    let inside : at ≤ length row = omega (arith, room) in elim (cases_lt j n) [
      | inl lt ↦
          let product = mul-le-mul_right size lt in
          part-before at k row group size (j * size) (omega (arith, product, is_at)) inside ∙ before j lt
      | inr ge ↦
          let this : j ≡ n = omega arith in
          let place : j * size ≡ at + 0 = omega (arith, is_at, ap (λ m. m * size) this) in
          ap (λ p. part size p (put_mid at k row group)) place
          ∙ part-within at k row group size 0 (omega (arith, is_k)) inside len
          ∙ take_all size group (omega (arith, is_k, len)) ∙ made ∙ ap value (sym this)
    ]
