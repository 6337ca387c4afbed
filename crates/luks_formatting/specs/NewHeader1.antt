-- The LUKS1 header of a new volume (LUKS1 On-Disk Format 1.2.3, "The partition header").
use Rattle.std.specs.Prelude.{◌≡◌, ℕ, ◌+◌, ◌*◌, ◌/◌, ◌==◌, ◌<◌, List, codes, if◌then◌else◌, length, replicate, slice_index_or}
use Rattle.luks_area.specs.declared.area.Area.{Area}
use Rattle.luks_kdf.specs.Names.{name_of}
use Rattle.luks_slot.specs.declared.plan.AreaCipher.{AreaCipher}
use Rattle.luks_slot.specs.declared.plan.AreaCipher.TheVariants.{Apart, Whole}
use Rattle.luks1_header.specs.declared.luks1.Luks1.{Luks1}
use Rattle.luks1_header.specs.declared.luks1.Luks1Common.{Luks1Common}
use Rattle.luks1_header.specs.declared.luks1.Luks1Slot.{Luks1Slot}
use Rattle.luks1_header.specs.declared.luks1.SlotState.TheVariants.{Enabled, Disabled}
use Rattle.luks_reading.specs.declared.report.Data.{Data}
use Rattle.luks_reading.specs.declared.report.Data.TheVariants.{Here, Elsewhere}
use Rattle.luks_reading.specs.declared.format.Format.{Format}
use Rattle.luks_formatting.specs.declared.new_cipher.NewCipher.{NewCipher}
use Rattle.luks_formatting.specs.Encrypting.{block_bytes, mode_of, used_bytes}
use Rattle.luks_formatting.specs.Given.{number_or, uuid_of}
use Rattle.luks_formatting.specs.NewPlan.{key_digest}
use Rattle.luks_formatting.specs.RandomBytes.{digest_salt, slot_place1, slot_salt}
use Rattle.luks_formatting.specs.declared.given.Given.{Given}

-- where the payload begins if nothing is given, in sectors of 512 bytes: at 2 MiB, or on another device at its
-- start
abbrev pub own_sector : Data → ℕ
own_sector Here = 4096
own_sector Elsewhere = 0

abbrev pub payload_sector : Given → ℕ
payload_sector given = number_or given.sector (own_sector given.payload)

-- where the key material of keyslot n begins, in sectors, where keys have k bytes: each begins at a multiple of
-- 4096 bytes
abbrev pub material_sector : ℕ → ℕ → ℕ
material_sector k n = 8 + n * (block_bytes k / 512)

-- the fields before the keyslots
pub record IsNewCommon
    (given : Given) (format : Format) (random : List ℕ) (common : Luks1Common)
    : Type 0 where
  pub cipher_name : common.cipher_name.bytes ≡ codes "aes"
  pub cipher_mode : common.cipher_mode.bytes ≡ mode_of given.cipher
  pub hash_spec : common.hash_spec.bytes ≡ name_of format.hash
  pub payload_offset : common.payload_offset ≡ payload_sector given
  pub key_bytes : common.key_bytes ≡ given.key_bytes
  pub mk_digest : common.mk_digest ≡ key_digest given format random 20
  pub mk_digest_salt : common.mk_digest_salt ≡ digest_salt given.key_bytes random
  pub mk_digest_iterations : common.mk_digest_iterations ≡ format.iterations
  pub uuid : common.uuid.bytes ≡ uuid_of given random

-- keyslot 0, which holds the key of k bytes
abbrev pub first_slot : ℕ → Format → List ℕ → Luks1Slot
first_slot k format random = record {
  state = Enabled;
  iterations = format.iterations;
  salt = slot_salt (slot_place1 k) random;
  key_material_offset = material_sector k 0;
  stripes = 4000;
}

-- the keyslot n, which is free
abbrev pub free_slot : ℕ → ℕ → Luks1Slot
free_slot k n = record {
  state = Disabled;
  iterations = 0;
  salt = replicate 32 0;
  key_material_offset = material_sector k n;
  stripes = 4000;
}

abbrev pub new_slot : ℕ → Format → List ℕ → ℕ → Luks1Slot
new_slot k format random n = if n == 0 then first_slot k format random else free_slot k n

-- the whole header
pub record IsNewHeader1
    (given : Given) (format : Format) (random : List ℕ) (header : Luks1)
    : Type 0 where
  pub common : IsNewCommon given format random header.common
  pub eight : length header.slots ≡ 8
  pub slots : (n : ℕ) (s : Luks1Slot) → n < 8
      → slice_index_or header.slots n s ≡ new_slot given.key_bytes format random n

-- the area of keyslot 0, and its cipher
abbrev pub area1 : ℕ → Area
area1 k = record { start = 4096; len = used_bytes k }

abbrev pub IsNewCipher1 : NewCipher → AreaCipher → Type 0
IsNewCipher1 cipher (Apart name mode) = (name.now ≡ codes "aes") × (mode.now ≡ mode_of cipher)
IsNewCipher1 cipher (Whole text) = ⊥
