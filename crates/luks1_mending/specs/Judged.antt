-- What has been judged on the way to a header: words of private contracts.
use Rattle.std.specs.Prelude.{◌≡◌, ℕ, ◌≤◌, List, Option, option_map, unwrap_or}
use Rattle.arrayvec.specs.declared.array_string.ArrayString.{ArrayString}
use Rattle.luks1_header.specs.Bytes.{text_at}
use Rattle.luks1_header.specs.Faults.{field_key}
use Rattle.luks1_header.specs.declared.fault.TextField.{TextField}
use Rattle.luks1_header.specs.declared.fault.TextField.TheVariants as field
use Rattle.luks1_mending.specs.Taken.{taken_text, IsUsable}
use Rattle.luks1_mending.specs.declared.common.Texts.{Texts}
use Rattle.luks1_mending.specs.declared.given.Given.{Given}

-- the text given, else that of the 32 bytes at the place
abbrev pub name_taken : List ℕ → ℕ → Option (ArrayString 32) → List ℕ
name_taken h at given = unwrap_or (option_map (λ t. t.bytes) given) (text_at h at 32)

-- else that of the 40 bytes at the place
abbrev pub uuid_taken : List ℕ → ℕ → Option (ArrayString 40) → List ℕ
uuid_taken h at given = unwrap_or (option_map (λ t. t.bytes) given) (text_at h at 40)

-- the text of the field
abbrev pub text_in : Texts → TextField → List ℕ
text_in x field.CipherName = x.cipher_name.bytes
text_in x field.CipherMode = x.cipher_mode.bytes
text_in x field.HashSpec = x.hash_spec.bytes
text_in x field.Uuid = x.uuid.bytes

-- the texts are those that are taken, and each is usable
pub record AreTaken (h : List ℕ) (g : Given) (x : Texts) : Type 0 where
  pub is : (t : TextField) → text_in x t ≡ taken_text h g t
  pub usable : (t : TextField) → IsUsable t (taken_text h g t)

-- the text of the field isn't usable
abbrev pub IsUnusable : List ℕ → Given → TextField → Type 0
IsUnusable h g t = IsUsable t (taken_text h g t) → ⊥

-- the first text field that can't be used
pub record IsFirstUnusable (h : List ℕ) (g : Given) (t : TextField) : Type 0 where
  pub bad : IsUnusable h g t
  pub first : (s : TextField) → IsUnusable h g s → field_key t ≤ field_key s
