-- What is taken for each field before the keyslots: what is given, else what stands (LUKS1 On-Disk Format
-- 1.2.3, "The partition header"): `h` is the header's 592 bytes.
use Rattle.std.specs.Prelude.{◌≡◌, ◌≢◌, ℕ, ◌≤◌, List, [], Option, None, option_map, unwrap_or, true}
use Rattle.luks_area.specs.Text.{is_plain}
use Rattle.luks1_header.specs.Bytes.{IsUuid}
use Rattle.luks1_header.specs.Header1.{header_text, key_bytes_of, mk_digest_iterations_of, payload_offset_of}
use Rattle.luks1_header.specs.declared.fault.HeadFault.{HeadFault}
use Rattle.luks1_header.specs.declared.fault.HeadFault.TheVariants as fault
use Rattle.luks1_header.specs.declared.fault.IterationsOf.TheVariants as of
use Rattle.luks1_header.specs.declared.fault.TextField.{TextField}
use Rattle.luks1_header.specs.declared.fault.TextField.TheVariants as field
use Rattle.luks1_mending.specs.declared.given.Given.{Given}

-- the text that is given for a field
abbrev pub given_text : Given → TextField → Option (List ℕ)
given_text g field.CipherName = option_map (λ t. t.bytes) g.cipher_name
given_text g field.CipherMode = option_map (λ t. t.bytes) g.cipher_mode
given_text g field.HashSpec = option_map (λ t. t.bytes) g.hash
given_text g field.Uuid = option_map (λ t. t.bytes) g.uuid

-- the text that is taken
abbrev pub taken_text : List ℕ → Given → TextField → List ℕ
taken_text h g t = unwrap_or (given_text g t) (header_text h t)

-- the length of the volume key, and the sector where the payload begins
abbrev pub taken_key_bytes : List ℕ → Given → ℕ
taken_key_bytes h g = unwrap_or g.key_bytes (key_bytes_of h)

abbrev pub taken_payload : List ℕ → Given → ℕ
taken_payload h g = unwrap_or g.payload (payload_offset_of h)

-- nothing is given
pub record IsNothing (g : Given) : Type 0 where
  pub cipher_name : g.cipher_name ≡ None
  pub cipher_mode : g.cipher_mode ≡ None
  pub hash : g.hash ≡ None
  pub key_bytes : g.key_bytes ≡ None
  pub payload : g.payload ≡ None
  pub uuid : g.uuid ≡ None

-- a name that has bytes, each of them from 0x20 to 0x7E
pub record IsName (text : List ℕ) : Type 0 where
  pub plain : is_plain text ≡ true
  pub some : text ≢ []

-- the text may be in the field
abbrev pub IsUsable : TextField → List ℕ → Type 0
IsUsable field.CipherName text = IsName text
IsUsable field.CipherMode text = IsName text
IsUsable field.HashSpec text = IsName text
IsUsable field.Uuid text = IsUuid text

-- the fields of which nothing usable stands or is given
abbrev pub IsFieldFault : List ℕ → Given → HeadFault → Type 0
IsFieldFault h g (fault.Text t) = IsUsable t (taken_text h g t) → ⊥
IsFieldFault h g fault.KeyBytes = 1 ≤ taken_key_bytes h g → taken_key_bytes h g ≤ 128 → ⊥
IsFieldFault h g (fault.Iterations of.Digest) = mk_digest_iterations_of h ≡ 0
IsFieldFault h g _ = ⊥
