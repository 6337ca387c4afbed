-- The LUKS1 header, field by field (LUKS1 On-Disk Format 1.2.3, "The partition header").
use Rattle.std.specs.Prelude.{◌≡◌, ℕ, ◌+◌, ◌*◌, ◌<◌, ◌≤◌, List, [], ◌∷◌, length, slice_index_or}
use Rattle.luks_area.specs.Ranges.{part}
use Rattle.luks1_header.specs.Bytes.{number_at, text_at, HoldsText, IsUuid}
use Rattle.luks1_header.specs.declared.fault.TextField.{TextField}
use Rattle.luks1_header.specs.declared.fault.TextField.TheVariants as field
use Rattle.luks1_header.specs.declared.luks1.Luks1.{Luks1}
use Rattle.luks1_header.specs.declared.luks1.Luks1Common.{Luks1Common}
use Rattle.luks1_header.specs.declared.luks1.Luks1Slot.{Luks1Slot}
use Rattle.luks1_header.specs.declared.luks1.SlotState.{SlotState}
use Rattle.luks1_header.specs.declared.luks1.SlotState.TheVariants.{Enabled, Disabled}

-- the bytes of the whole header, of the fields before the key slots, and of each of the eight key slots
abbrev pub luks1_size : ℕ
luks1_size = 592

abbrev pub common_size : ℕ
common_size = 208

abbrev pub entry_size : ℕ
entry_size = 48

-- `LUKS`, 0xBA, 0xBE
abbrev pub luks_magic : List ℕ
luks_magic = 0x4C ∷ 0x55 ∷ 0x4B ∷ 0x53 ∷ 0xBA ∷ 0xBE ∷ []

-- the first 6 bytes are the magic
abbrev pub HasMagic : List ℕ → Type 0
HasMagic v = part v 0 6 ≡ luks_magic

-- the version after the magic
abbrev pub version_of : List ℕ → ℕ
version_of v = number_at v 6 2

-- where a text stands, and in how many bytes
abbrev pub field_at : TextField → ℕ
field_at field.CipherName = 8
field_at field.CipherMode = 40
field_at field.HashSpec = 72
field_at field.Uuid = 168

abbrev pub field_len : TextField → ℕ
field_len field.CipherName = 32
field_len field.CipherMode = 32
field_len field.HashSpec = 32
field_len field.Uuid = 40

-- the text of a field
abbrev pub header_text : List ℕ → TextField → List ℕ
header_text v t = text_at v (field_at t) (field_len t)

-- the other fields before the key slots
abbrev pub payload_offset_of : List ℕ → ℕ
payload_offset_of v = number_at v 104 4

abbrev pub key_bytes_of : List ℕ → ℕ
key_bytes_of v = number_at v 108 4

abbrev pub mk_digest_of : List ℕ → List ℕ
mk_digest_of v = part v 112 20

abbrev pub mk_digest_salt_of : List ℕ → List ℕ
mk_digest_salt_of v = part v 132 32

abbrev pub mk_digest_iterations_of : List ℕ → ℕ
mk_digest_iterations_of v = number_at v 164 4

-- the 48 bytes of the key slot n
abbrev pub entry : List ℕ → ℕ → List ℕ
entry v n = part v (common_size + entry_size * n) entry_size

-- the fields of a key slot's 48 bytes
abbrev pub active_word : List ℕ → ℕ
active_word e = number_at e 0 4

abbrev pub entry_iterations : List ℕ → ℕ
entry_iterations e = number_at e 4 4

abbrev pub entry_salt : List ℕ → List ℕ
entry_salt e = part e 8 32

abbrev pub entry_key_material_offset : List ℕ → ℕ
entry_key_material_offset e = number_at e 40 4

abbrev pub entry_stripes : List ℕ → ℕ
entry_stripes e = number_at e 44 4

-- the words of an enabled and of a disabled key slot
abbrev pub enabled_word : ℕ
enabled_word = 0x00AC71F3

abbrev pub disabled_word : ℕ
disabled_word = 0x0000DEAD

abbrev pub word_of : SlotState → ℕ
word_of Enabled = enabled_word
word_of Disabled = disabled_word

-- the 48 bytes `e` of a key slot say `s`
pub record HoldsEntry (e : List ℕ) (s : Luks1Slot) : Type 0 where
  pub state : active_word e ≡ word_of s.state
  pub iterations : entry_iterations e ≡ s.iterations
  pub salt : entry_salt e ≡ s.salt
  pub key_material_offset : entry_key_material_offset e ≡ s.key_material_offset
  pub stripes : entry_stripes e ≡ s.stripes

-- the 48 bytes `e` are those of the key slot `s`, which is fit for use: it has stripes, and an
-- enabled one has iterations
pub record IsEntry (e : List ℕ) (s : Luks1Slot) : Type 0 where
  pub fields : HoldsEntry e s
  pub striped : 1 ≤ entry_stripes e
  pub iterated : active_word e ≡ enabled_word → 1 ≤ entry_iterations e

-- the 208 bytes before the key slots say `c`
pub record HoldsCommon (v : List ℕ) (c : Luks1Common) : Type 0 where
  pub cipher_name : header_text v field.CipherName ≡ c.cipher_name.bytes
  pub cipher_mode : header_text v field.CipherMode ≡ c.cipher_mode.bytes
  pub hash_spec : header_text v field.HashSpec ≡ c.hash_spec.bytes
  pub payload_offset : payload_offset_of v ≡ c.payload_offset
  pub key_bytes : key_bytes_of v ≡ c.key_bytes
  pub mk_digest : mk_digest_of v ≡ c.mk_digest
  pub mk_digest_salt : mk_digest_salt_of v ≡ c.mk_digest_salt
  pub mk_digest_iterations : mk_digest_iterations_of v ≡ c.mk_digest_iterations
  pub uuid : header_text v field.Uuid ≡ c.uuid.bytes

-- the four texts hold only bytes from 0x20 to 0x7E
abbrev pub HoldsTexts : List ℕ → Type 0
HoldsTexts v = (t : TextField) → HoldsText v (field_at t) (field_len t)

-- the 208 bytes before the key slots are those of a LUKS1 header, and say `c`
pub record IsCommon (v : List ℕ) (c : Luks1Common) : Type 0 where
  pub magic : HasMagic v
  pub version : version_of v ≡ 1
  pub fields : HoldsCommon v c
  pub texts : HoldsTexts v
  pub uuid : IsUuid (header_text v field.Uuid)
  pub key_at_least : 1 ≤ key_bytes_of v
  pub key_at_most : key_bytes_of v ≤ 128
  pub digest_iterated : 1 ≤ mk_digest_iterations_of v

-- the eight key slots are those of the volume `v`
pub record HoldsSlots (v : List ℕ) (slots : List Luks1Slot) : Type 0 where
  pub eight : length slots ≡ 8
  pub each : (n : ℕ) (s : Luks1Slot) → n < 8 → IsEntry (entry v n) (slice_index_or slots n s)

-- the volume `v` begins with the LUKS1 header `d`
pub record IsLuks1 (v : List ℕ) (d : Luks1) : Type 0 where
  pub long : luks1_size ≤ length v
  pub common : IsCommon v d.common
  pub slots : HoldsSlots v d.slots
