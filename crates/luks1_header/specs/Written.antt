-- A LUKS1 header as it is written: each field in its place, and zeros in every byte that no field takes.
use Rattle.std.specs.Prelude.{◌≡◌, ℕ, ◌+◌, ◌<◌, ◌≤◌, List, length, slice_index, slice_index_or}
use Rattle.luks_area.specs.Ranges.{part}
use Rattle.luks_area.specs.Text.{text_of}
use Rattle.luks1_header.specs.Header1.{entry, entry_size, field_at, field_len, luks1_size, version_of, HasMagic, HoldsCommon, HoldsEntry}
use Rattle.luks1_header.specs.declared.fault.TextField.{TextField}
use Rattle.luks1_header.specs.declared.fault.TextField.TheVariants as field
use Rattle.luks1_header.specs.declared.luks1.Luks1.{Luks1}
use Rattle.luks1_header.specs.declared.luks1.Luks1Common.{Luks1Common}
use Rattle.luks1_header.specs.declared.luks1.Luks1Slot.{Luks1Slot}

-- the numbers from the place `from` up to the place `end` are bytes
abbrev pub AreBytes : List ℕ → ℕ → ℕ → Type 0
AreBytes b from end = (k : ℕ) → from ≤ k → k < end → slice_index b k < 256

-- the bytes from the place `from` up to the place `end` are zeros
abbrev pub AreZeros : List ℕ → ℕ → ℕ → Type 0
AreZeros b from end = (k : ℕ) → from ≤ k → k < end → slice_index b k ≡ 0

-- the text has no zero byte, which would end it in its field
abbrev pub IsWhole : List ℕ → Type 0
IsWhole text = text_of text ≡ text

-- the text of the field of a LUKS1 header
abbrev pub common_text : Luks1Common → TextField → List ℕ
common_text c field.CipherName = c.cipher_name.bytes
common_text c field.CipherMode = c.cipher_mode.bytes
common_text c field.HashSpec = c.hash_spec.bytes
common_text c field.Uuid = c.uuid.bytes

-- the bytes `b` begin with the fields `c` of a LUKS1 header as they are written: the texts are
-- followed by zeros
pub record WritesCommon (b : List ℕ) (c : Luks1Common) : Type 0 where
  pub magic : HasMagic b
  pub version : version_of b ≡ 1
  pub fields : ((t : TextField) → IsWhole (common_text c t)) → HoldsCommon b c
  pub room : (t : TextField) → length (common_text c t) ≤ field_len t
  pub texts : (t : TextField) → part b (field_at t) (length (common_text c t)) ≡ common_text c t
  pub padding : (t : TextField)
      → AreZeros b (field_at t + length (common_text c t)) (field_at t + field_len t)

-- the 48 bytes `e` are those of the key slot `s` as it is written: its numbers come before the salt
-- and after it
pub record WritesEntry (e : List ℕ) (s : Luks1Slot) : Type 0 where
  pub long : length e ≡ entry_size
  pub fields : HoldsEntry e s
  pub before_salt : AreBytes e 0 8
  pub after_salt : AreBytes e 40 entry_size

-- the 592 bytes `b` are the LUKS1 header `d` as it is written
pub record WritesLuks1 (b : List ℕ) (d : Luks1) : Type 0 where
  pub long : length b ≡ luks1_size
  pub common : WritesCommon b d.common
  pub slots : (n : ℕ) (s : Luks1Slot) → n < 8 → WritesEntry (entry b n) (slice_index_or d.slots n s)
