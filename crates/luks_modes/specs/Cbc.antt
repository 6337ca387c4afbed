-- CBC with AES over whole blocks (NIST SP 800-38A, 6.2), and the IVs of a sector.
use Rattle.std.specs.Prelude.{ℕ, zero, suc, ◌/◌, ◌%◌, ◌^◌, List, length}
use Rattle.std.specs.Int.{w128, to_le_bytes}
use Rattle.sha2.specs.Sha256.{sha256}
use Rattle.luks_aes.specs.Aes.{Aes, AesInverse}
use Rattle.luks_modes.specs.Xts.{block_at, joined, xor_block}
use Rattle.luks_modes.specs.declared.vectors.IvKind.{IvKind}
use Rattle.luks_modes.specs.declared.vectors.IvKind.TheVariants.{Plain, Plain64, Essiv}

-- block j of the ciphertext, counted from 1: the cipher of the sum of block j of the plaintext and the
-- block of the ciphertext before it; the one before the first is the IV (6.2)
unfoldable pub cipher_block : List ℕ → List ℕ → List ℕ → ℕ → List ℕ
cipher_block key iv plain zero = iv
cipher_block key iv plain (suc j) =
    Aes key (xor_block (block_at plain j) (cipher_block key iv plain j))

-- the block before block j of a ciphertext, counted from 0
unfoldable pub block_before : List ℕ → List ℕ → ℕ → List ℕ
block_before iv cipher zero = iv
block_before iv cipher (suc j) = block_at cipher j

-- block j of the plaintext, counted from 0: the sum of the inverse cipher of block j of the ciphertext
-- and the block before it (6.2)
unfoldable pub plain_block : List ℕ → List ℕ → List ℕ → ℕ → List ℕ
plain_block key iv cipher j =
    xor_block (AesInverse key (block_at cipher j)) (block_before iv cipher j)

-- whole blocks sealed and opened under a key and an IV
unfoldable pub sealed_from : List ℕ → List ℕ → List ℕ → List ℕ
sealed_from key iv plain = joined (λ j. cipher_block key iv plain (suc j)) (length plain / 16)

unfoldable pub opened_from : List ℕ → List ℕ → List ℕ → List ℕ
opened_from key iv cipher = joined (plain_block key iv cipher) (length cipher / 16)

-- the IV of the sector of this number: for plain the number in 32 bits, for plain64 in 64 bits, lowest
-- byte first, then zeros; for essiv:sha256 the IV of plain64 encrypted under the SHA-256 of the key
abbrev pub iv_of : IvKind → List ℕ → ℕ → List ℕ
iv_of Plain key sector = to_le_bytes w128 (sector % 2 ^ 32)
iv_of Plain64 key sector = to_le_bytes w128 (sector % 2 ^ 64)
iv_of Essiv key sector = Aes (sha256 key) (to_le_bytes w128 (sector % 2 ^ 64))

-- a key with the kind of its IVs
pub record CbcKeyOf : Type 0 where
  pub bytes : List ℕ
  pub ivs : IvKind

-- a sector sealed and opened
abbrev pub CbcSeal : CbcKeyOf → ℕ → List ℕ → List ℕ
CbcSeal key sector bytes = sealed_from key.bytes (iv_of key.ivs key.bytes sector) bytes

abbrev pub CbcOpen : CbcKeyOf → ℕ → List ℕ → List ℕ
CbcOpen key sector bytes = opened_from key.bytes (iv_of key.ivs key.bytes sector) bytes
