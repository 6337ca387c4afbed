-- What clearing leaves, and that nothing counts there.
use Rattle.std.proofs.Common.{◌≡◌, ℕ, ◌+◌, ◌≤◌, ◌==◌, List, length, replicate, slice_index_or, true, false, Bool, if◌then◌else◌, inl, arith, lit≤, sym, ap, ◌∙◌}
use Rattle.std.proofs.lemmas.List.{length-replicate}
use Rattle.luks_area.specs.Ranges.{part, written, IsAt, SameBut}
use Rattle.luks_area.proofs.RangeFacts.{part-part, part-same_but_at, part-written}
use Rattle.luks1_header.specs.Header1.{luks_magic, HasMagic}
use Rattle.luks2_header.specs.Header2.{magic_of, second_magic, IsSound}
use Rattle.luks_writing.specs.Cleared.{IsCleared}

-- ---- what is cleared

-- zeros that were written at a place are there
pub zeros_stand : (u v : List ℕ) (at : ℕ) → at + 512 ≤ length u → v ≡ written u at (replicate 512 0) → IsCleared v at
zeros_stand u v at inside is =
    let long : length (replicate {A = ℕ} 512 0) ≡ 512 = length-replicate {A = ℕ} 512 0 in
    ap (λ w. part w at 512) is ∙ ap (part (written u at (replicate 512 0)) at) (sym long)
    ∙ part-written u at (replicate 512 0) (omega (arith, long, inside))

-- the sector at 0 stays cleared while the other is written
pub first_stays : (v w : List ℕ) (second : ℕ) → 512 ≤ second → SameBut (IsAt second 512) v w → IsCleared v 0 → IsCleared w 0
first_stays v w second apart same cleared = part-same_but_at second 512 0 512 same (inl (omega (arith, apart))) ∙ cleared

-- ---- nothing counts there

-- neither magic begins with a zero
not_zeros : (is_first : Bool) → replicate 6 0 ≡ (if is_first then luks_magic else second_magic) → ⊥
not_zeros true is = let first : 0 ≡ 0x4C = ap (λ (b : List ℕ). slice_index_or b 0 0) is in omega (arith, first)
not_zeros false is = let first : 0 ≡ 0x53 = ap (λ (b : List ℕ). slice_index_or b 0 0) is in omega (arith, first)

no_magic : (at : ℕ) → replicate 6 0 ≡ magic_of at → ⊥
no_magic at is = not_zeros (at == 0) is

-- the first six bytes of a range
six_of : (v : List ℕ) (at len : ℕ) → 6 ≤ len → part (part v at len) 0 6 ≡ part v at 6
six_of v at len long =
    let same : at + 0 ≡ at = omega arith in
    part-part v at len 0 6 (omega (arith, long)) ∙ ap (λ k. part v k 6) same

-- the bytes of a magic are zeros in a cleared sector
six_zeros : (v : List ℕ) (at : ℕ) → IsCleared v at → part v at 6 ≡ replicate 6 0
six_zeros v at cleared = sym (six_of v at 512 (lit≤ tt)) ∙ ap (λ b. part b 0 6) cleared

pub no_copy : (v : List ℕ) (at : ℕ) → IsCleared v at → IsSound v at → ⊥
no_copy v at cleared sound =
    no_magic at (sym (six_zeros v at cleared) ∙ sym (six_of v at 4096 (lit≤ tt)) ∙ sound.form.magic)

pub no_luks1 : (v : List ℕ) → IsCleared v 0 → HasMagic v → ⊥
no_luks1 v cleared magic = no_magic 0 (sym (six_zeros v 0 cleared) ∙ magic)
