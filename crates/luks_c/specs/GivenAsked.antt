-- What a caller gives of a volume that is made.
use Rattle.std.specs.Prelude.{◌≡◌, ◌≢◌, ℕ, List, option_map, Bool, true, false, Option, None, Some}
use Rattle.std.specs.Borrow.{Bor}
use Rattle.luks_reading.specs.declared.report.Data.{Data}
use Rattle.luks_formatting.specs.declared.given.Given.{Given}
use Rattle.luks_formatting.specs.declared.new_cipher.NewCipher.{NewCipher}
use Rattle.luks_formatting.specs.declared.new_cipher.NewCipher.TheVariants.{XtsPlain64, XtsPlain, CbcEssiv, CbcPlain64, CbcPlain}
use Rattle.luks_c.specs.declared.giving.LuksEncryption.{LuksEncryption}
use Rattle.luks_c_headers.specs.RebuildAnswers.{IsMaybeText}

-- the sector that is given; or none, where it is 2^64 - 1
abbrev pub IsMaybeSector : ℕ → Option ℕ → Type 0
IsMaybeSector number None = number ≡ 18446744073709551615
IsMaybeSector number (Some s) = (number ≢ 18446744073709551615) × (s ≡ number)

-- the key that is given, which may have no byte; or none
abbrev pub IsMaybeKey : Bool → List ℕ → Option (Bor (List ℕ)) → Type 0
IsMaybeKey keyed bytes None = keyed ≡ false
IsMaybeKey keyed bytes (Some key) = (keyed ≡ true) × (key.now ≡ bytes)

-- the text that is given; or none, where it has no byte
abbrev pub IsMaybeName : List ℕ → Option (Bor (List ℕ)) → Type 0
IsMaybeName bytes text = IsMaybeText bytes (option_map (λ t. t.now) text)

-- a cipher by its number
abbrev pub cipher_number : NewCipher → ℕ
cipher_number XtsPlain64 = 1
cipher_number XtsPlain = 2
cipher_number CbcEssiv = 3
cipher_number CbcPlain64 = 4
cipher_number CbcPlain = 5

-- no cipher has this number
abbrev pub IsNoCipher : ℕ → Type 0
IsNoCipher number = (c : NewCipher) → cipher_number c ≡ number → ⊥

-- what is given, by these numbers and bytes
pub record IsGivenBy (payload : Data) (sector : ℕ) (keyed : Bool) (key uuid label subsystem : List ℕ) (encryption : LuksEncryption) (given : Given) : Type 0 where
  pub payload_is : given.payload ≡ payload
  pub sector_is : IsMaybeSector sector given.sector
  pub key_is : IsMaybeKey keyed key given.key
  pub uuid_is : IsMaybeName uuid given.uuid
  pub label_is : IsMaybeName label given.label
  pub subsystem_is : IsMaybeName subsystem given.subsystem
  pub cipher_is : cipher_number given.cipher ≡ encryption.cipher
  pub key_bytes_are : given.key_bytes ≡ encryption.key_bytes
  pub sector_size_is : given.sector_size ≡ encryption.sector_bytes
