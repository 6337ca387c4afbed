-- A word turned to the right: its two parts change places.
use Rattle.std.proofs.Common.{refl, ◌≡◌, ℕ, ◌+◌, ◌-◌, ◌*◌, ◌/◌, ◌%◌, ◌^◌, ◌<◌, ◌≤◌, bit_or, sym, ap, subst, ◌∙◌, arith, mod-lt, pow_pos, pow-add}
use Rattle.std.proofs.lemmas.Nat.{mod-mul-add, mod-pow-add, mod_low, or_comm, or_shifted, shl_below, shr_below, shr_high, shr_split}

-- what `rotate_right` by `k` makes of a word `x` of `w` bits
abbrev pub rotated : ℕ → ℕ → ℕ → ℕ
rotated w x k = bit_or (x / 2 ^ k) (x * 2 ^ (w - k) % 2 ^ w)

-- the upper part has the bits that are left
pub upper_lt : (w x k : ℕ) → k ≤ w → x < 2 ^ w → x / 2 ^ k < 2 ^ (w - k)
upper_lt w x k le fits =
    let bits : w - k + k ≡ w = omega arith in
    shr_below x (w - k) k (subst (λ (i : ℕ). x < 2 ^ i) (sym bits) fits)

-- the lower part, moved to the top, is all that is left of the word there
moved_up : (x k j : ℕ) → x * 2 ^ j % 2 ^ (k + j) ≡ x % 2 ^ k * 2 ^ j
moved_up x k j =
    let upper : ℕ = x / 2 ^ k in
    let lower : ℕ = x % 2 ^ k in
    let parts : x * 2 ^ j ≡ upper * 2 ^ (k + j) + lower * 2 ^ j =
    ap (λ (n : ℕ). n * 2 ^ j) (sym (shr_split x k)) ∙ omega (arith, ap (λ (n : ℕ). upper * n) (pow-add 2 k j)) in
    ap (λ (n : ℕ). n % 2 ^ (k + j)) parts ∙ mod-mul-add upper (2 ^ (k + j)) (lower * 2 ^ j) (shl_below lower k j (mod-lt x (pow_pos k)))

-- the lower part is above the upper one
pub rotated_parts : (w x k : ℕ) → k ≤ w → x < 2 ^ w → rotated w x k ≡ x % 2 ^ k * 2 ^ (w - k) + x / 2 ^ k
rotated_parts w x k le fits =
    let bits : w ≡ k + (w - k) = omega arith in
    let top : x * 2 ^ (w - k) % 2 ^ w ≡ x % 2 ^ k * 2 ^ (w - k) = ap (λ (i : ℕ). x * 2 ^ (w - k) % 2 ^ i) bits ∙ moved_up x k (w - k) in
    or_comm (x / 2 ^ k) (x * 2 ^ (w - k) % 2 ^ w) ∙ ap (λ (n : ℕ). bit_or n (x / 2 ^ k)) top
    ∙ or_shifted (x % 2 ^ k) (w - k) (x / 2 ^ k) (upper_lt w x k le fits)

-- a word of 32 bits written twice, shifted
pub doubled_shifted : (x k : ℕ) → k ≤ 32 → x < 2 ^ 32 → x * (2 ^ 32 + 1) / 2 ^ k % 2 ^ 32 ≡ rotated 32 x k
doubled_shifted x k le fits =
    let j : ℕ = 32 - k in
    let e : 32 ≡ k + j = omega arith in
    let high : x / 2 ^ k < 2 ^ j = upper_lt 32 x k le fits in
    let whole : x * (2 ^ (k + j) + 1) ≡ (x * 2 ^ j + x / 2 ^ k) * 2 ^ k + x % 2 ^ k =
    omega (arith, ap (λ (y : ℕ). x * y) (pow-add 2 k j), shr_split x k) in
    let shifted : x * (2 ^ 32 + 1) / 2 ^ k ≡ x * 2 ^ j + x / 2 ^ k =
    (λ i. x * (2 ^ e i + 1) / 2 ^ k) ∙ rw (whole) (shr_high _ k (x % 2 ^ k) (mod-lt _ (pow_pos k))) in
    let low : (x * 2 ^ j + x / 2 ^ k) % 2 ^ 32 ≡ x % 2 ^ k * 2 ^ j + x / 2 ^ k =
    (λ i. (x * 2 ^ j + x / 2 ^ k) % 2 ^ e i) ∙ mod-pow-add (x * 2 ^ j + x / 2 ^ k) k j
    ∙ rw (shr_high x j (x / 2 ^ k) high, mod_low x j (x / 2 ^ k) high) refl in
    rw shifted (low ∙ sym (rotated_parts 32 x k le fits))
