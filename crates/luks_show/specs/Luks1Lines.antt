-- The lines of a LUKS1 header: five, and one for each of its keyslots.
use Rattle.std.specs.Prelude.{ℕ, ◌+◌, List, [], ◌∷◌, ◌++◌, codes}
use Rattle.std.specs.Fmt.{decimal}
use Rattle.luks1_header.specs.declared.luks1.Luks1.{Luks1}
use Rattle.luks1_header.specs.declared.luks1.Luks1Common.{Luks1Common}
use Rattle.luks1_header.specs.declared.luks1.Luks1Slot.{Luks1Slot}
use Rattle.luks1_header.specs.declared.luks1.SlotState.{SlotState}
use Rattle.luks1_header.specs.declared.luks1.SlotState.TheVariants.{Enabled, Disabled}
use Rattle.luks_show.specs.Texts.{escaped, line}

-- the fields before the keyslots
abbrev pub common_lines : Luks1Common → List ℕ
common_lines c =
    line (codes "luks1")
    ++ (codes "uuid " ++ line (escaped c.uuid.bytes))
    ++ (codes "cipher " ++ escaped c.cipher_name.bytes ++ codes "-" ++ escaped c.cipher_mode.bytes ++ codes " key-bytes " ++ line (decimal c.key_bytes))
    ++ (codes "hash " ++ line (escaped c.hash_spec.bytes))
    ++ (codes "payload " ++ line (decimal c.payload_offset))

-- the keyslot n: an enabled one with its iterations
abbrev pub slot_line_as : SlotState → ℕ → Luks1Slot → List ℕ
slot_line_as Enabled n s =
    codes "slot " ++ decimal n ++ codes " enabled iterations " ++ decimal s.iterations ++ codes " offset " ++ decimal s.key_material_offset
    ++ codes " stripes " ++ line (decimal s.stripes)
slot_line_as Disabled n s =
    codes "slot " ++ decimal n ++ codes " disabled offset " ++ decimal s.key_material_offset ++ codes " stripes " ++ line (decimal s.stripes)

abbrev pub slot_line : ℕ → Luks1Slot → List ℕ
slot_line n s = slot_line_as s.state n s

-- the keyslots from the number n on, each listed so
abbrev pub slot_lines : (ℕ → Luks1Slot → List ℕ) → ℕ → List Luks1Slot → List ℕ
slot_lines listed n [] = []
slot_lines listed n (s ∷ ss) = listed n s ++ slot_lines listed (n + 1) ss

-- the whole header
abbrev pub luks1_lines : Luks1 → List ℕ
luks1_lines header = common_lines header.common ++ slot_lines slot_line 0 header.slots
