-- The JSON object of a LUKS1 header, with its members in the order of their names.
use Rattle.std.specs.Prelude.{ℕ, ◌+◌, ◌*◌, List, [], ◌∷◌, ◌++◌, codes}
use Rattle.base64.specs.Engines.{standard}
use Rattle.base64.specs.GeneralPurpose.{encode_of}
use Rattle.serde_json.specs.Data.{Data, array, object, member, no_members}
use Rattle.serde_json.specs.View.{items_of}
use Rattle.luks_area.specs.Sectors.{rounded_to_sectors}
use Rattle.luks1_header.specs.declared.luks1.Luks1.{Luks1}
use Rattle.luks1_header.specs.declared.luks1.Luks1Common.{Luks1Common}
use Rattle.luks1_header.specs.declared.luks1.Luks1Slot.{Luks1Slot}
use Rattle.luks1_header.specs.declared.luks1.SlotState.{SlotState}
use Rattle.luks1_header.specs.declared.luks1.SlotState.TheVariants.{Enabled, Disabled}
use Rattle.luks_show.specs.ValueTexts.{number_member, text_member}

-- where the key material lies, in bytes, and its cipher
abbrev pub area_value : Luks1Common → Luks1Slot → Data
area_value c s = object (
    text_member (codes "cipher") (c.cipher_name.bytes ++ (codes "-" ++ c.cipher_mode.bytes)) (
    number_member (codes "key_bytes") c.key_bytes (
    number_member (codes "offset") (s.key_material_offset * 512) (
    number_member (codes "size") (rounded_to_sectors (c.key_bytes * s.stripes)) no_members))))

-- the derivation and what it costs
abbrev pub kdf_value : Luks1Common → Luks1Slot → Data
kdf_value c s = object (
    text_member (codes "hash") c.hash_spec.bytes (
    number_member (codes "iterations") s.iterations (
    text_member (codes "salt") (encode_of standard s.salt) (
    text_member (codes "type") (codes "pbkdf2") no_members))))

abbrev pub splitter_value : Luks1Common → Luks1Slot → Data
splitter_value c s = object (
    text_member (codes "hash") c.hash_spec.bytes (
    number_member (codes "stripes") s.stripes no_members))

-- the keyslot n: a disabled one has no derivation
abbrev pub slot_value_as : SlotState → Luks1Common → ℕ → Luks1Slot → Data
slot_value_as Enabled c n s = object (
    member (codes "area") (area_value c s) (
    member (codes "kdf") (kdf_value c s) (
    number_member (codes "key_bytes") c.key_bytes (
    number_member (codes "number") n (
    member (codes "splitter") (splitter_value c s) (
    text_member (codes "state") (codes "enabled") no_members))))))
slot_value_as Disabled c n s = object (
    member (codes "area") (area_value c s) (
    number_member (codes "number") n (
    member (codes "splitter") (splitter_value c s) (
    text_member (codes "state") (codes "disabled") no_members))))

abbrev pub slot_value : Luks1Common → ℕ → Luks1Slot → Data
slot_value c n s = slot_value_as s.state c n s

-- the keyslots from the number n on
abbrev pub slot_values : Luks1Common → ℕ → List Luks1Slot → List Data
slot_values c n [] = []
slot_values c n (s ∷ ss) = slot_value c n s ∷ slot_values c (n + 1) ss

-- the digest of the volume key
abbrev pub digest_value : Luks1Common → Data
digest_value c = object (
    number_member (codes "iterations") c.mk_digest_iterations (
    text_member (codes "salt") (encode_of standard c.mk_digest_salt) (
    text_member (codes "value") (encode_of standard c.mk_digest) no_members)))

-- the header, its keyslots and its digest being these
abbrev pub header_value : Luks1Common → Data → Data → Data
header_value c keyslots digest = object (
    text_member (codes "cipher_mode") c.cipher_mode.bytes (
    text_member (codes "cipher_name") c.cipher_name.bytes (
    member (codes "digest") digest (
    text_member (codes "hash") c.hash_spec.bytes (
    number_member (codes "key_bytes") c.key_bytes (
    member (codes "keyslots") keyslots (
    number_member (codes "payload_offset") (c.payload_offset * 512) (
    text_member (codes "uuid") c.uuid.bytes (
    number_member (codes "version") 1 no_members)))))))))

abbrev pub luks1_value : Luks1 → Data
luks1_value header = header_value header.common (array (items_of (slot_values header.common 0 header.slots))) (digest_value header.common)
