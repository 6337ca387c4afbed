-- One round more, of the cipher and of its inverse, with the round key as a part of the schedule.
use Rattle.std.proofs.Common.{◌≡◌, ℕ, suc, ◌+◌, ◌-◌, ◌*◌, List, take, drop, ap, ap₂, arith, add-one}
use Rattle.luks_aes.specs.Aes.{add_round_key, mix_columns, shift_rows, sub_bytes, inverse_mix_columns, inverse_shift_rows, inverse_sub_bytes, round_key, state_after, state_before, cipher}

-- the round key at its place in the words
pub round_key_is : (w : List ℕ) (i a e : ℕ) → a ≡ 16 * i → e ≡ a + 16 → take (e - a) (drop a w) ≡ round_key w i
unfolding round_key
round_key_is w i a e start end =
    let len : e - a ≡ 16 = omega arith in
    ap₂ (λ (n m : ℕ). take n (drop m w)) len start

-- one round more
pub state_after_more : (w : List ℕ) (n : ℕ) (s t k : List ℕ) → t ≡ state_after w n s → k ≡ round_key w (suc n)
    → add_round_key (mix_columns (shift_rows (sub_bytes t))) k ≡ state_after w (n + 1) s
unfolding state_after
state_after_more w n s t k h hk =
    rw add-one (ap₂ (λ (u v : List ℕ). add_round_key (mix_columns (shift_rows (sub_bytes u))) v) h hk)

-- the last round
pub cipher_end : (w : List ℕ) (n : ℕ) (s t k : List ℕ) → t ≡ state_after w n s → k ≡ round_key w (n + 1)
    → add_round_key (shift_rows (sub_bytes t)) k ≡ cipher w n s
unfolding cipher
cipher_end w n s t k h hk = ap₂ (λ (u v : List ℕ). add_round_key (shift_rows (sub_bytes u)) v) h hk

-- one round undone
pub state_before_less : (w : List ℕ) (n : ℕ) (t k : List ℕ) → k ≡ round_key w (suc n)
    → state_before w n (inverse_sub_bytes (inverse_shift_rows (inverse_mix_columns (add_round_key t k)))) ≡ state_before w (suc n) t
unfolding state_before
state_before_less w n t k hk = ap (λ (v : List ℕ). state_before w n (inverse_sub_bytes (inverse_shift_rows (inverse_mix_columns (add_round_key t v))))) hk

-- the first round key taken away
pub state_before_end : (w t k : List ℕ) → k ≡ round_key w 0 → add_round_key t k ≡ state_before w 0 t
unfolding state_before
state_before_end w t k hk = ap (add_round_key t) hk
