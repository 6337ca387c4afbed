-- A copied area: the bytes of the old one, and zeros to its end.
use Rattle.std.proofs.Common.{◌≡◌, ℕ, ◌+◌, ◌-◌, ◌≤◌, ◌++◌, List, length, replicate, sym, ap, ◌∙◌, arith, length-append}
use Rattle.std.proofs.lemmas.List.{length-replicate}
use Rattle.luks_area.specs.Device.{Touches, no_place}
use Rattle.luks_area.proofs.DeviceFacts.{touches-flush, touches-inside, touches-then, touches-wider}
use Rattle.luks_area.specs.Ranges.{part, written, IsAt}
use Rattle.luks_area.proofs.RangeFacts.{length-part_inside, part-written, written-written}

-- what was copied and filled is there
pub copied_area : (s u w x y : List ℕ) (from m at n : ℕ) → m ≤ n → from + m ≤ length s → at + n ≤ length u
    → w ≡ written u at (part s from m) → x ≡ written w (at + m) (replicate (n - m) 0) → y ≡ x
    → part y at n ≡ part s from m ++ replicate (n - m) 0
copied_area s u w x y from m at n large there within copied filled same =
    let xs : List ℕ = part s from m in
    let ys : List ℕ = replicate (n - m) 0 in
    let first : length xs ≡ m = length-part_inside s from m there in
    let second : length ys ≡ n - m = length-replicate {A = ℕ} (n - m) 0 in
    let both : length (xs ++ ys) ≡ n = (let sum = length-append xs ys in omega (arith, sum, first, second, large)) in
    let whole : y ≡ written u at (xs ++ ys) =
    same ∙ filled ∙ ap (λ v. written v (at + m) ys) copied ∙ ap (λ k. written (written u at xs) (at + k) ys) (sym first)
    ∙ written-written u at xs ys (omega (arith, first, second, within, large)) in
    ap (λ v. part v at n) whole ∙ ap (part (written u at (xs ++ ys)) at) (sym both) ∙ part-written u at (xs ++ ys) (omega (arith, both, within))

-- the three steps touch the new area alone
pub copy_touches : {D : Type 0} {bytes_of : D → List ℕ} {unsettled_of : D → ℕ → Type 0} {a b : D} (at m n : ℕ) → m ≤ n
    → Touches bytes_of unsettled_of (IsAt at m) a b → Touches bytes_of unsettled_of (IsAt at n) a b
copy_touches at m n large first = touches-wider (λ p here. (here.0, let high = here.1 in omega (arith, high, large))) first

pub fill_touches : {D : Type 0} {bytes_of : D → List ℕ} {unsettled_of : D → ℕ → Type 0} {a b c : D} (at m n : ℕ) → m ≤ n
    → Touches bytes_of unsettled_of (IsAt at m) a b → Touches bytes_of unsettled_of (IsAt (at + m) (n - m)) b c → Touches bytes_of unsettled_of (IsAt at n) a c
fill_touches at m n large first second = touches-then (copy_touches at m n large first) (touches-inside at n m (n - m) (omega (arith, large)) second)

pub all_touches : {D : Type 0} {bytes_of : D → List ℕ} {unsettled_of : D → ℕ → Type 0} {a b c d : D} (at m n : ℕ) → m ≤ n
    → Touches bytes_of unsettled_of (IsAt at m) a b → Touches bytes_of unsettled_of (IsAt (at + m) (n - m)) b c
    → Touches bytes_of unsettled_of no_place c d → Touches bytes_of unsettled_of (IsAt at n) a d
all_touches at m n large first second last = touches-flush (fill_touches at m n large first second) last
