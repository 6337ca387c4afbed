-- How many sectors differ before a border, and which borders are near enough.
use Rattle.std.proofs.Common.{◌≡◌, ℕ, zero, suc, ◌+◌, ◌-◌, ◌*◌, ◌≤◌, List, ◌++◌, length, take, drop, not, Bool, true, false, cond, sym, ap, ◌∙◌, arith, subst, [], ◌∷◌, append_assoc}
use Rattle.std.specs.List.{count_by, range_with_len}
use Rattle.std.specs.Str.{bytes_eq}
use Rattle.std.proofs.lemmas.List.{drop-drop, map-id, take-append-drop}
use Rattle.std.proofs.lemmas.List.FromFn.{length-range_with_len, map-range_with_len_more}
use Rattle.std.proofs.lemmas.List.Sums.{count_by-le-length, sum_by_push}
use Rattle.std.proofs.lemmas.Slice.Eq.{bytes_eq-Decides}
use Rattle.std.proofs.Math.Nat.{mul-le-mul_right}
use Rattle.luks_vouching.specs.Composed.{bordered, differing_before, sector}
use Rattle.luks_vouching.specs.Tried.{IsNear}
use Rattle.luks_vouching.proofs.SectorFacts.{next_front, not_false}

-- one more number of a range
range_more : (n : ℕ) → range_with_len 0 (n + 1) ≡ range_with_len 0 n ++ n ∷ []
range_more n =
    sym (map-id (range_with_len 0 (n + 1))) ∙ map-range_with_len_more (λ k. k) 0 n n (omega arith)
    ∙ ap (λ l. l ++ n ∷ []) (map-id (range_with_len 0 n))

module _ (a b : List ℕ) where
  pub before_more : (n : ℕ) → differing_before a b (n + 1) ≡ differing_before a b n + cond (not (bytes_eq (sector a n) (sector b n))) 1 0
  before_more n =
      let p : ℕ → Bool = λ k. not (bytes_eq (sector a k) (sector b k)) in
      ap (count_by p) (range_more n) ∙ sum_by_push (λ k. cond (p k) 1 0) (range_with_len 0 n) n

  pub before_yes : (n : ℕ) → not (bytes_eq (sector a n) (sector b n)) ≡ true → differing_before a b (n + 1) ≡ differing_before a b n + 1
  before_yes n is = before_more n ∙ ap (λ (x : Bool). differing_before a b n + cond x 1 0) is

  pub before_no : (n : ℕ) → not (bytes_eq (sector a n) (sector b n)) ≡ false → differing_before a b (n + 1) ≡ differing_before a b n
  before_no n is =
      let none : differing_before a b n + 0 ≡ differing_before a b n = omega arith in
      before_more n ∙ ap (λ (x : Bool). differing_before a b n + cond x 1 0) is ∙ none

  -- not more than there are
  pub before_le : (n : ℕ) → differing_before a b n ≤ n
  before_le n =
      let p : ℕ → Bool = λ k. not (bytes_eq (sector a k) (sector b k)) in
      let most : count_by p (range_with_len 0 n) ≤ length (range_with_len 0 n) = count_by-le-length p (range_with_len 0 n) in
      let long : length (range_with_len 0 n) ≡ n = length-range_with_len 0 n in
      omega (arith, most, long)

  -- further on not fewer
  before_grows : (n d : ℕ) → differing_before a b n ≤ differing_before a b (n + d)
  before_grows n zero = let at : n + 0 ≡ n = omega arith in subst (λ k. differing_before a b n ≤ differing_before a b k) (sym at) (omega arith)
  before_grows n (suc d) =
      let at : (n + d) + 1 ≡ n + suc d = omega arith in
      let more = before_more (n + d) in
      let so_far = before_grows n d in
      subst (λ k. differing_before a b n ≤ differing_before a b k) at (omega (arith, more, so_far))

  -- before a border that is near enough each is
  pub near_before : (most n m : ℕ) → n ≤ m → IsNear most a b m → IsNear most a b n
  near_before most n m le near =
      let d : ℕ = m - n in
      let at : n + (m - n) ≡ m = omega (arith, le) in
      let grows : differing_before a b n ≤ differing_before a b m = subst (λ k. differing_before a b n ≤ differing_before a b k) at (before_grows n (m - n)) in
      let twice : 2 + 2 * (differing_before a b n + 1) ≤ 2 + 2 * (differing_before a b m + 1) = omega (arith, grows) in
      let bytes : (2 + 2 * (differing_before a b n + 1)) * length a ≤ (2 + 2 * (differing_before a b m + 1)) * length a = mul-le-mul_right (length a) twice in
      omega (arith, bytes, near)

  -- behind a sector that doesn't differ the border makes nothing new
  pub border_same : (n : ℕ) → not (bytes_eq (sector a n) (sector b n)) ≡ false → bordered a b (n + 1) ≡ bordered a b n
  border_same n same =
      let next : sector a n ≡ sector b n = (bytes_eq-Decides (sector a n) (sector b n)).0 (not_false (bytes_eq (sector a n) (sector b n)) same) in
      let at : 512 * n + 512 ≡ 512 * (n + 1) = omega arith in
      let rest : drop 512 (drop (512 * n) b) ≡ drop (512 * (n + 1)) b = drop-drop 512 (512 * n) b ∙ ap (λ k. drop k b) at in
      ap (λ l. l ++ drop (512 * (n + 1)) b) (next_front a n)
      ∙ append_assoc (take (512 * n) a) (sector a n) (drop (512 * (n + 1)) b)
      ∙ ap (λ l. take (512 * n) a ++ l) (ap (λ l. l ++ drop (512 * (n + 1)) b) next ∙ ap (λ l. sector b n ++ l) (sym rest) ∙ take-append-drop 512 (drop (512 * n) b))
