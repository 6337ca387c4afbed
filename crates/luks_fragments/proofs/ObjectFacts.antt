-- Counts of braces, byte by byte.
use Rattle.std.proofs.Common.{◌≡◌, ℕ, ◌+◌, ◌-◌, ◌<◌, ◌≤◌, ◌∙◌, inl, inr, List, length, get_or, drop, ap, arith, length-drop}
use Rattle.std.proofs.lemmas.Bool.{cases_lt}
use Rattle.std.proofs.lemmas.List.{get_or-drop}
use Rattle.std.proofs.lemmas.List.Sums.{fold_more}
use Rattle.luks_area.specs.Ranges.{part}
use Rattle.luks_fragments.specs.Levels.{closes, opens}
use Rattle.luks_fragments.specs.Objects.{IsObjectAt, closed, opened}

left_long : (v : List ℕ) (at k : ℕ) → at + k < length v → k < length (drop at v)
left_long v at k inside = let long : length (drop at v) ≡ length v - at = length-drop at v in omega (arith, long, inside)

-- with one byte more as many braces open and close as that one adds
pub opened_more : (v : List ℕ) (at k : ℕ) → at + k < length v → opened (part v at (k + 1)) ≡ opened (part v at k) + opens (get_or v (at + k) 0)
opened_more v at k inside =
    fold_more (λ a x. a + opens x) 0 (drop at v) k 0 (left_long v at k inside) ∙ ap (λ b. opened (part v at k) + opens b) (get_or-drop at v k 0)

pub closed_more : (v : List ℕ) (at k : ℕ) → at + k < length v → closed (part v at (k + 1)) ≡ closed (part v at k) + closes (get_or v (at + k) 0)
closed_more v at k inside =
    fold_more (λ a x. a + closes x) 0 (drop at v) k 0 (left_long v at k inside) ∙ ap (λ b. closed (part v at k) + closes b) (get_or-drop at v k 0)

-- an object ends behind each place before which more braces open than close
pub longer : (v : List ℕ) (at len k : ℕ) → IsObjectAt v at len → ((j : ℕ) → 1 ≤ j → j ≤ k → closed (part v at j) < opened (part v at j)) → k < len
longer v at len k x above = elim (cases_lt k len) [
  | inl less ↦ less
  | inr more ↦ (let shut = x.whole in let some = x.some in let over = above len (omega (arith, some)) more in absurd (omega (arith, shut, over)))
]

-- an object that begins somewhere has one length
pub one_length : (v : List ℕ) (at m n : ℕ) → IsObjectAt v at m → IsObjectAt v at n → m ≡ n
one_length v at m n x y = elim (cases_lt m n) [
  | inl less ↦ (let some = x.some in let shut = x.whole in let over = y.unclosed m (omega (arith, some)) less in absurd (omega (arith, shut, over)))
  | inr above ↦ elim (cases_lt n m) [
    | inl fewer ↦ (let some = y.some in let shut = y.whole in let over = x.unclosed n (omega (arith, some)) fewer in absurd (omega (arith, shut, over)))
    | inr below ↦ omega (arith, above, below)
  ]
]
