-- What sealing and opening undo of each other.
use Rattle.std.proofs.Common.{◌≡◌, ℕ, zero, suc, ◌*◌, ◌/◌, ◌%◌, ◌<◌, ◌≤◌, List, length, ap, ap₂, ◌∙◌, refl, arith}
use Rattle.luks_aes.specs.Aes.{Aes, AesInverse}
use Rattle.luks_aes.specs.States.{AreBytes, IsState}
use Rattle.luks_aes.proofs.InverseFacts.{aes_undone, aes_redone, aes-state, inverse-state}
use Rattle.luks_modes.specs.Xts.{block_at, joined, xor_block}
use Rattle.luks_modes.proofs.UnitFacts.{block_at-joined, bytes-block_at, joined-blocks, length-block_at, length-joined, length-xor_block, same_joined, xor_block-state, xor_block_undone}
use Rattle.luks_modes.specs.Cbc.{block_before, cipher_block, opened_from, plain_block, sealed_from}

module _ (key iv bytes : List ℕ) (key_bytes : AreBytes key) (iv_bytes : AreBytes iv) (all : AreBytes bytes) (whole : length bytes % 16 ≡ 0) where
  -- how many blocks there are
  count : ℕ
  count = length bytes / 16

  -- all of them
  long : length bytes ≡ 16 * count
  unfolding count
  long = omega arith

  -- a block
  block-state : (j : ℕ) → j < count → IsState (block_at bytes j)
  block-state j low = record { long = length-block_at bytes count j long low; bytes = bytes-block_at bytes j all }

  -- ---- sealed, then opened

  -- a block of the ciphertext is of bytes
  cipher-bytes : (j : ℕ) → AreBytes (cipher_block key iv bytes j)
  unfolding cipher_block
  cipher-bytes zero = iv_bytes
  cipher-bytes (suc j) =
      (aes-state key _ key_bytes (xor_block-state (block_at bytes j) (cipher_block key iv bytes j) (bytes-block_at bytes j all) (cipher-bytes j))).bytes

  -- and so is what it is the cipher of
  summed : (j : ℕ) → IsState (xor_block (block_at bytes j) (cipher_block key iv bytes j))
  summed j = xor_block-state (block_at bytes j) (cipher_block key iv bytes j) (bytes-block_at bytes j all) (cipher-bytes j)

  -- a block of the ciphertext has 16 bytes
  length-cipher : (j : ℕ) → length (cipher_block key iv bytes (suc j)) ≡ 16
  unfolding cipher_block
  length-cipher j = (aes-state key _ key_bytes (summed j)).long

  -- the blocks of the ciphertext, joined
  sealed : List ℕ
  sealed = joined (λ j. cipher_block key iv bytes (suc j)) count

  -- block j of it
  sealed_at : (j : ℕ) → j < count → block_at sealed j ≡ cipher_block key iv bytes (suc j)
  unfolding sealed
  sealed_at j low = block_at-joined (λ j. cipher_block key iv bytes (suc j)) count j length-cipher low

  -- the block before it
  sealed_before : (j : ℕ) → j ≤ count → block_before iv sealed j ≡ cipher_block key iv bytes j
  unfolding block_before cipher_block
  sealed_before zero low = refl
  sealed_before (suc j) low = sealed_at j (omega arith)

  -- a block of it, opened
  opened_at : (j : ℕ) → j < count → plain_block key iv sealed j ≡ block_at bytes j
  unfolding plain_block cipher_block
  opened_at j low =
      ap₂ (λ s b. xor_block (AesInverse key s) b) (sealed_at j low) (sealed_before j (omega arith))
      ∙ ap (λ s. xor_block s (cipher_block key iv bytes j)) (aes_undone key _ key_bytes (summed j))
      ∙ xor_block_undone (block_at bytes j) (cipher_block key iv bytes j) (block-state j low).long

  -- all of it, opened
  pub seal_undone : opened_from key iv (sealed_from key iv bytes) ≡ bytes
  unfolding opened_from sealed_from count sealed
  seal_undone =
      let size : length sealed ≡ 16 * count = length-joined (λ j. cipher_block key iv bytes (suc j)) count length-cipher in
      let same : length sealed / 16 ≡ count = omega (arith, size) in
      ap (joined (plain_block key iv sealed)) same
      ∙ same_joined (plain_block key iv sealed) (block_at bytes) count opened_at
      ∙ joined-blocks bytes whole

  -- ---- opened, then sealed

  -- a block of the plaintext has 16 bytes
  length-plain : (j : ℕ) → length (plain_block key iv bytes j) ≡ 16
  unfolding plain_block
  length-plain j = length-xor_block _ _

  -- the blocks of the plaintext, joined
  opened : List ℕ
  opened = joined (plain_block key iv bytes) count

  -- block j of it
  plain_at : (j : ℕ) → j < count → block_at opened j ≡ plain_block key iv bytes j
  unfolding opened
  plain_at j low = block_at-joined (plain_block key iv bytes) count j length-plain low

  -- the block before it, sealed
  sealed_again : (j : ℕ) → j ≤ count → cipher_block key iv opened j ≡ block_before iv bytes j
  unfolding block_before cipher_block plain_block
  sealed_again zero low = refl
  sealed_again (suc j) low =
      let here : j < count = omega arith in
      let before = block_before iv bytes j in
      let state = block-state j here in
      ap (Aes key)
      (ap₂ (λ s b. xor_block s b) (plain_at j here) (sealed_again j (omega arith))
      ∙ xor_block_undone (AesInverse key (block_at bytes j)) before (inverse-state key _ key_bytes state).long)
      ∙ aes_redone key _ key_bytes state

  -- all of it, sealed
  pub open_undone : sealed_from key iv (opened_from key iv bytes) ≡ bytes
  unfolding opened_from sealed_from count opened block_before
  open_undone =
      let size : length opened ≡ 16 * count = length-joined (plain_block key iv bytes) count length-plain in
      let same : length opened / 16 ≡ count = omega (arith, size) in
      ap (joined (λ j. cipher_block key iv opened (suc j))) same
      ∙ same_joined (λ j. cipher_block key iv opened (suc j)) (block_at bytes) count (λ j low. sealed_again (suc j) (omega arith))
      ∙ joined-blocks bytes whole
