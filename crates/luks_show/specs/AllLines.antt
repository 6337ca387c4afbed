-- The further lines of a header, with `--all`.
use Rattle.std.specs.Prelude.{ℕ, ◌*◌, List, [], ◌++◌, codes}
use Rattle.std.specs.Fmt.{decimal}
use Rattle.luks_area.specs.Sectors.{rounded_to_sectors}
use Rattle.luks_area.specs.Text.{text_of}
use Rattle.luks1_header.specs.declared.luks1.Luks1.{Luks1}
use Rattle.luks1_header.specs.declared.luks1.Luks1Common.{Luks1Common}
use Rattle.luks1_header.specs.declared.luks1.Luks1Slot.{Luks1Slot}
use Rattle.luks1_header.specs.declared.luks1.SlotState.{SlotState}
use Rattle.luks1_header.specs.declared.luks1.SlotState.TheVariants.{Enabled, Disabled}
use Rattle.luks2_header.specs.declared.bin2.Bin2.{Bin2}
use Rattle.luks_meta.specs.declared.keyslots.Argon2.{Argon2}
use Rattle.luks_meta.specs.declared.keyslots.Cost.{Cost}
use Rattle.luks_meta.specs.declared.keyslots.Cost.TheVariants.{Pbkdf2, Argon2i, Argon2id}
use Rattle.luks_meta.specs.declared.segments.Encryption.{Encryption}
use Rattle.luks_show.specs.Digits.{hex}
use Rattle.luks_show.specs.Luks1Lines.{common_lines, slot_line, slot_lines}
use Rattle.luks_show.specs.Texts.{escaped, line}

-- the subsystem of a LUKS2 header's copy
abbrev pub subsystem_line : Bin2 → List ℕ
subsystem_line header = codes "subsystem " ++ line (escaped (text_of header.subsystem))

-- by Argon2 of this kind: the passes over the memory, its KiB, and the lanes
abbrev pub argon2_line : ℕ → List ℕ → Argon2 → List ℕ
argon2_line n kind c =
    codes "costs " ++ decimal n ++ codes " " ++ kind ++ codes " time " ++ decimal c.time ++ codes " memory " ++ decimal c.memory
    ++ codes " cpus " ++ line (decimal c.cpus)

-- what the derivation of keyslot n costs
abbrev pub costs_line : ℕ → Cost → List ℕ
costs_line n (Pbkdf2 c) = codes "costs " ++ decimal n ++ codes " pbkdf2 " ++ escaped c.hash.now ++ codes " iterations " ++ line (decimal c.iterations)
costs_line n (Argon2i c) = argon2_line n (codes "argon2i") c
costs_line n (Argon2id c) = argon2_line n (codes "argon2id") c

-- the salt of keyslot n's derivation
abbrev pub salt_line : ℕ → List ℕ → List ℕ
salt_line n salt = codes "salt " ++ decimal n ++ codes " " ++ line (hex salt)

-- how segment n is encrypted
abbrev pub encryption_line : ℕ → Encryption → List ℕ
encryption_line n e =
    codes "encryption " ++ decimal n ++ codes " " ++ escaped e.cipher.now ++ codes " sector-size " ++ decimal e.sector_size
    ++ codes " iv-tweak " ++ line (decimal e.iv_tweak)

-- where a LUKS1 header's payload begins, in bytes
abbrev pub payload_bytes_line : Luks1Common → List ℕ
payload_bytes_line c = codes "payload-bytes " ++ line (decimal (c.payload_offset * 512))

-- the key material of a LUKS1 header's keyslot n, of a volume key of so many bytes: where it begins and how long it
-- is, in bytes
abbrev pub area_line : ℕ → ℕ → Luks1Slot → List ℕ
area_line key_bytes n s =
    codes "area " ++ decimal n ++ codes " " ++ decimal (s.key_material_offset * 512) ++ codes " "
    ++ line (decimal (rounded_to_sectors (key_bytes * s.stripes)))

-- a disabled keyslot has no derivation
abbrev pub salt_line_as : SlotState → ℕ → List ℕ → List ℕ
salt_line_as Enabled n salt = salt_line n salt
salt_line_as Disabled n salt = []

-- the keyslot n
abbrev pub full_slot_lines : ℕ → ℕ → Luks1Slot → List ℕ
full_slot_lines key_bytes n s = slot_line n s ++ area_line key_bytes n s ++ salt_line_as s.state n s.salt

-- the whole LUKS1 header
abbrev pub full_luks1_lines : Luks1 → List ℕ
full_luks1_lines header =
    common_lines header.common ++ payload_bytes_line header.common ++ slot_lines (full_slot_lines header.common.key_bytes) 0 header.slots
