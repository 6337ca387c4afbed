-- The cipher of a new volume, of its data and its key areas alike.
use Rattle.std.specs.Prelude.{ℕ, ◌+◌, ◌*◌, ◌/◌, Bool, true, false, List, ◌++◌, codes}
use Rattle.luks_area.specs.Sectors.{rounded_to_sectors}
use Rattle.luks_slot.specs.Ciphers.{cipher_named, is_size_of}
use Rattle.luks_formatting.specs.declared.new_cipher.NewCipher.{NewCipher}
use Rattle.luks_formatting.specs.declared.new_cipher.NewCipher.TheVariants.{XtsPlain64, XtsPlain, CbcEssiv, CbcPlain64, CbcPlain}

-- a cipher as a header names it: its mode, and whether it is one of older disks
pub record NamedCipher : Type 0 where
  pub mode : List ℕ
  pub older : Bool

abbrev pub named_cipher : NewCipher → NamedCipher
named_cipher XtsPlain64 = record { mode = codes "xts-plain64"; older = false }
named_cipher XtsPlain = record { mode = codes "xts-plain"; older = false }
named_cipher CbcEssiv = record { mode = codes "cbc-essiv:sha256"; older = true }
named_cipher CbcPlain64 = record { mode = codes "cbc-plain64"; older = true }
named_cipher CbcPlain = record { mode = codes "cbc-plain"; older = true }

abbrev pub mode_of : NewCipher → List ℕ
mode_of c = (named_cipher c).mode

abbrev pub is_older : NewCipher → Bool
is_older c = (named_cipher c).older

-- the whole text: aes, a hyphen and the mode
abbrev pub cipher_text : NewCipher → List ℕ
cipher_text c = codes "aes-" ++ mode_of c

-- the cipher takes keys of so many bytes
abbrev pub takes_key : NewCipher → ℕ → Bool
takes_key c n = is_size_of (cipher_named (cipher_text c)) n

-- ---- what a key of so many bytes takes in 4000 stripes

-- the bytes of the whole sectors that hold the stripes
abbrev pub used_bytes : ℕ → ℕ
used_bytes k = rounded_to_sectors (k * 4000)

-- the same in whole blocks of 4096 bytes
abbrev pub block_bytes : ℕ → ℕ
block_bytes k = (k * 4000 + 4095) / 4096 * 4096
