-- Two that are given alike except for the mode: `xts-plain64` of the one, `xts-plain` of the other.
use Rattle.std.specs.Prelude.{◌≡◌, List, ℕ, codes}
use Rattle.luks1_header.specs.declared.fault.TextField.TheVariants.{CipherMode, CipherName, HashSpec}
use Rattle.luks1_mending.specs.Taken.{taken_text}
use Rattle.luks1_mending.specs.declared.given.Given.{Given}
use Rattle.luks1_rebuilding.specs.KeyAreas.{header_of, key_of}

-- of the volume `v` they take the same name, hash and length, and these modes
pub record TakesPlain (v : List ℕ) (whole low : Given) : Type 0 where
  pub whole_mode : taken_text (header_of v) whole CipherMode ≡ codes "xts-plain64"
  pub low_mode : taken_text (header_of v) low CipherMode ≡ codes "xts-plain"
  pub cipher_name : taken_text (header_of v) low CipherName ≡ taken_text (header_of v) whole CipherName
  pub hash : taken_text (header_of v) low HashSpec ≡ taken_text (header_of v) whole HashSpec
  pub key_bytes : key_of v low ≡ key_of v whole
