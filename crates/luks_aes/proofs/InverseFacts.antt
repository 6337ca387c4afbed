-- The cipher undone by its inverse, and the other way round.
use Rattle.std.proofs.Common.{◌≡◌, ℕ, zero, suc, ◌+◌, List, ap, ◌∙◌}
use Rattle.luks_aes.specs.Aes.{add_round_key, sub_bytes, shift_rows, mix_columns, inverse_sub_bytes, inverse_shift_rows, inverse_mix_columns, round_key, state_after, cipher, state_before, inverse_cipher, key_schedule, Aes, AesInverse}
use Rattle.luks_aes.specs.States.{AreBytes, IsState}
use Rattle.luks_aes.proofs.ByteFacts.{bytes-round_key, bytes-key_schedule}
use Rattle.luks_aes.proofs.StepFacts.{key_undone, sub_undone, sub_redone, shift_undone, shift_redone, mix_undone, mix_redone, add_round_key-state, sub_bytes-state, shift_rows-state, mix_columns-state, inverse_sub_bytes-state, inverse_shift_rows-state, inverse_mix_columns-state}

module _ (w : List ℕ) (words : AreBytes w) where
  -- rounds give a state
  after-state : (n : ℕ) (s : List ℕ) → IsState s → IsState (state_after w n s)
  unfolding state_after
  after-state zero s h = add_round_key-state s _ h.bytes (bytes-round_key w 0 words)
  after-state (suc n) s h =
      let before = after-state n s h in
      let mixed = mix_columns-state _ (shift_rows-state _ (sub_bytes-state _ before.bytes).bytes).bytes in
      add_round_key-state _ _ mixed.bytes (bytes-round_key w (suc n) words)

  -- the substitution and the rotation of the last round, undone
  last_undone : (s : List ℕ) → IsState s → inverse_sub_bytes (inverse_shift_rows (shift_rows (sub_bytes s))) ≡ s
  last_undone s h = ap inverse_sub_bytes (shift_undone (sub_bytes s) (sub_bytes-state s h.bytes).long) ∙ sub_undone s h

  -- the same, the other way round
  last_redone : (s : List ℕ) → IsState s → shift_rows (sub_bytes (inverse_sub_bytes (inverse_shift_rows s))) ≡ s
  last_redone s h = ap shift_rows (sub_redone (inverse_shift_rows s) (inverse_shift_rows-state s h.bytes)) ∙ shift_redone s h.long

  -- whole rounds undone
  rounds_undone : (n : ℕ) (s : List ℕ) → IsState s → state_before w n (state_after w n s) ≡ s
  unfolding state_before state_after
  rounds_undone zero s h = key_undone s (round_key w 0) h.long
  rounds_undone (suc n) s h =
      let before = after-state n s h in
      let shifted = shift_rows-state _ (sub_bytes-state _ before.bytes).bytes in
      let mixed = mix_columns-state _ shifted.bytes in
      ap (λ (t : List ℕ). state_before w n (inverse_sub_bytes (inverse_shift_rows (inverse_mix_columns t)))) (key_undone _ (round_key w (suc n)) mixed.long)
      ∙ ap (λ (t : List ℕ). state_before w n (inverse_sub_bytes (inverse_shift_rows t))) (mix_undone _ shifted)
      ∙ ap (state_before w n) (last_undone _ before)
      ∙ rounds_undone n s h

  -- whole rounds, the other way round
  rounds_redone : (n : ℕ) (s : List ℕ) → IsState s → state_after w n (state_before w n s) ≡ s
  unfolding state_before state_after
  rounds_redone zero s h = key_undone s (round_key w 0) h.long
  rounds_redone (suc n) s h =
      let k = round_key w (suc n) in
      let added = add_round_key-state s k h.bytes (bytes-round_key w (suc n) words) in
      let unmixed = inverse_mix_columns-state _ added.bytes in
      let back = inverse_sub_bytes-state _ (inverse_shift_rows-state _ unmixed.bytes).bytes in
      ap (λ (t : List ℕ). add_round_key (mix_columns (shift_rows (sub_bytes t))) k) (rounds_redone n _ back)
      ∙ ap (λ (t : List ℕ). add_round_key (mix_columns t) k) (last_redone _ unmixed)
      ∙ ap (λ (t : List ℕ). add_round_key t k) (mix_redone _ added)
      ∙ key_undone s k h.long

  -- the cipher undone
  cipher_undone : (n : ℕ) (s : List ℕ) → IsState s → inverse_cipher w n (cipher w n s) ≡ s
  unfolding cipher inverse_cipher
  cipher_undone n s h =
      let before = after-state n s h in
      let shifted = shift_rows-state _ (sub_bytes-state _ before.bytes).bytes in
      ap (λ (t : List ℕ). state_before w n (inverse_sub_bytes (inverse_shift_rows t))) (key_undone _ (round_key w (n + 1)) shifted.long)
      ∙ ap (state_before w n) (last_undone _ before)
      ∙ rounds_undone n s h

  -- the cipher, the other way round
  cipher_redone : (n : ℕ) (s : List ℕ) → IsState s → cipher w n (inverse_cipher w n s) ≡ s
  unfolding cipher inverse_cipher
  cipher_redone n s h =
      let k = round_key w (n + 1) in
      let added = add_round_key-state s k h.bytes (bytes-round_key w (n + 1) words) in
      let back = inverse_sub_bytes-state _ (inverse_shift_rows-state _ added.bytes).bytes in
      ap (λ (t : List ℕ). add_round_key (shift_rows (sub_bytes t)) k) (rounds_redone n _ back)
      ∙ ap (λ (t : List ℕ). add_round_key t k) (last_redone _ added)
      ∙ key_undone s k h.long

  -- the cipher gives a state
  cipher-state : (n : ℕ) (s : List ℕ) → IsState s → IsState (cipher w n s)
  unfolding cipher
  cipher-state n s h =
      let before = after-state n s h in
      let shifted = shift_rows-state _ (sub_bytes-state _ before.bytes).bytes in
      add_round_key-state _ _ shifted.bytes (bytes-round_key w (n + 1) words)

  -- rounds undone give a state
  before-state : (n : ℕ) (s : List ℕ) → IsState s → IsState (state_before w n s)
  unfolding state_before
  before-state zero s h = add_round_key-state s _ h.bytes (bytes-round_key w 0 words)
  before-state (suc n) s h =
      let added = add_round_key-state s _ h.bytes (bytes-round_key w (suc n) words) in
      let unmixed = inverse_mix_columns-state _ added.bytes in
      before-state n _ (inverse_sub_bytes-state _ (inverse_shift_rows-state _ unmixed.bytes).bytes)

  -- the inverse cipher gives a state
  inverse_cipher-state : (n : ℕ) (s : List ℕ) → IsState s → IsState (inverse_cipher w n s)
  unfolding inverse_cipher
  inverse_cipher-state n s h =
      let added = add_round_key-state s _ h.bytes (bytes-round_key w (n + 1) words) in
      before-state n _ (inverse_sub_bytes-state _ (inverse_shift_rows-state _ added.bytes).bytes)

-- AES undone
pub aes_undone : (key s : List ℕ) → AreBytes key → IsState s → AesInverse key (Aes key s) ≡ s
unfolding Aes AesInverse
aes_undone key s k h = cipher_undone (key_schedule key) (bytes-key_schedule key k) _ s h

-- AES, the other way round
pub aes_redone : (key s : List ℕ) → AreBytes key → IsState s → Aes key (AesInverse key s) ≡ s
unfolding Aes AesInverse
aes_redone key s k h = cipher_redone (key_schedule key) (bytes-key_schedule key k) _ s h

-- AES gives a state
pub aes-state : (key s : List ℕ) → AreBytes key → IsState s → IsState (Aes key s)
unfolding Aes
aes-state key s k h = cipher-state (key_schedule key) (bytes-key_schedule key k) _ s h

-- its inverse gives a state
pub inverse-state : (key s : List ℕ) → AreBytes key → IsState s → IsState (AesInverse key s)
unfolding AesInverse
inverse-state key s k h = inverse_cipher-state (key_schedule key) (bytes-key_schedule key k) _ s h
