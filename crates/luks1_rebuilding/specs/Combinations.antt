-- The combinations that are tried of what isn't given, in their order: the cipher's name and mode, the hash, and
-- the length of the key. `h` is the header's 592 bytes (LUKS1 On-Disk Format 1.2.3, "The partition header").
use Rattle.std.specs.List.{slice_get}
use Rattle.std.specs.Prelude.{◌≡◌, ◌≢◌, ℕ, zero, suc, ◌/◌, ◌%◌, ◌<◌, List, [], ◌∷◌, Option, Some, None, codes}
use Rattle.luks1_header.specs.Header1.{header_text, key_bytes_of}
use Rattle.luks1_header.specs.declared.fault.TextField.{TextField}
use Rattle.luks1_header.specs.declared.fault.TextField.TheVariants.{CipherMode, CipherName, HashSpec, Uuid}
use Rattle.luks1_mending.specs.Taken.{given_text}
use Rattle.luks1_mending.specs.declared.given.Given.{Given}

-- what is tried of a field where nothing is given: the cipher by which a keyslot opens, the hashes and the lengths
-- in bytes
abbrev pub tried_texts : TextField → List (List ℕ)
tried_texts CipherName = codes "aes" ∷ []
tried_texts CipherMode = codes "xts-plain64" ∷ []
tried_texts HashSpec = codes "sha256" ∷ codes "sha1" ∷ codes "sha512" ∷ []
tried_texts Uuid = []

abbrev pub tried_lengths : List ℕ
tried_lengths = 64 ∷ 32 ∷ 16 ∷ []

-- the text at the place `i` of a field's list: first what is given, or what stands; then those that are tried,
-- where none is given and another stands
abbrev pub IsTextAt : List ℕ → TextField → Option (List ℕ) → ℕ → Option (List ℕ) → Type 0
IsTextAt h t given zero text = text ≡ given
IsTextAt h t given (suc i) None = ⊥
IsTextAt h t given (suc i) (Some text) =
    (given ≡ None) × (slice_get (tried_texts t) i ≡ Some text) × (text ≢ header_text h t)

-- the length at that place of its list
abbrev pub IsLengthAt : List ℕ → Option ℕ → ℕ → Option ℕ → Type 0
IsLengthAt h given zero len = len ≡ given
IsLengthAt h given (suc i) None = ⊥
IsLengthAt h given (suc i) (Some len) =
    (given ≡ None) × (slice_get tried_lengths i ≡ Some len) × (len ≢ key_bytes_of h)

-- `c` is what is given, completed by the combination `n` of the 64, of which some are left out: the length
-- changes fastest, then the hash, then the mode
pub record IsCombination (h : List ℕ) (g : Given) (n : ℕ) (c : Given) : Type 0 where
  pub numbered : n < 64
  pub cipher_name : IsTextAt h CipherName (given_text g CipherName) (n / 32) (given_text c CipherName)
  pub cipher_mode : IsTextAt h CipherMode (given_text g CipherMode) (n / 16 % 2) (given_text c CipherMode)
  pub hash : IsTextAt h HashSpec (given_text g HashSpec) (n / 4 % 4) (given_text c HashSpec)
  pub key_bytes : IsLengthAt h g.key_bytes (n % 4) c.key_bytes
  pub payload : c.payload ≡ g.payload
  pub uuid : c.uuid ≡ g.uuid
