-- What is said of a keyslot with a cipher or a hash of older disks.
use Rattle.std.specs.Prelude.{◌≡◌, ◌⊎◌, ℕ, List, [], ◌∷◌, ◌++◌, codes, Bool, true, false, Option, Some, None, length}
use Rattle.std.specs.Fmt.{decimal}
use Rattle.serde_json.specs.Data.{Data}
use Rattle.luks1_header.specs.declared.fault.TextField.TheVariants as field
use Rattle.luks1_header.specs.Header1.{header_text}
use Rattle.luks_rules.specs.declared.table.Outer.{Outer}
use Rattle.luks_rules.specs.declared.table.Outer.TheVariants as outer
use Rattle.luks_rules.specs.declared.table.Member.TheVariants as name
use Rattle.luks_rules.specs.declared.table.Section.TheVariants.{Digests, Keyslots}
use Rattle.luks_rules.specs.Faults.{member_at, object_at}
use Rattle.luks_rules.specs.Reading.{text_of}
use Rattle.luks_meta.specs.Content.{content}
use Rattle.luks_meta.specs.Naming.{IsDigestOf}
use Rattle.luks_slot.specs.declared.allowed.Allowed.{Allowed}
use Rattle.luks_reading.specs.declared.header.Header.{Header}
use Rattle.luks_reading.specs.declared.header.Header.TheVariants.{Luks1, Luks2}
use Rattle.luks_reading.specs.declared.open_fault.OpenFault.{OpenFault}
use Rattle.luks_reading.specs.Answer.{FirstRefusal, IsRefusalWithin}
use Rattle.luks_reading.specs.Header.{IsHeader}
use Rattle.luks_notes.specs.declared.older_keyslot.OlderNote.{OlderNote}
use Rattle.luks_notes.specs.declared.older_keyslot.OlderPart.{OlderPart}
use Rattle.luks_notes.specs.declared.older_keyslot.OlderPart.TheVariants.{Cipher, Hash, Untold}

-- ---- where it helps to accept them

-- as much memory as any keyslot names
abbrev pub all_memory : Bool → Allowed
all_memory older = record { memory = 4294967295; older = older }

-- whatever memory is allowed, the keyslot `n` of the volume `v` is refused, and where ciphers and hashes of older disks are accepted as
-- well it isn't
pub record IsOlder (v : List ℕ) (n : ℕ) : Type 0 where
  pub fault : OpenFault
  pub without : FirstRefusal (IsRefusalWithin (all_memory false) v n) (Some fault)
  pub tried : FirstRefusal (IsRefusalWithin (all_memory true) v n) None

-- ---- what of the keyslot is of older disks

-- of a LUKS1 header, whose keyslots have one cipher and one hash
abbrev pub IsLuks1Part : List ℕ → OlderPart → Type 0
IsLuks1Part h (Cipher text) = text.now ≡ header_text h field.CipherName ++ codes "-" ++ header_text h field.CipherMode
IsLuks1Part h (Hash text) = text.now ≡ header_text h field.HashSpec
IsLuks1Part h Untold = Unit {0}

-- an object of LUKS2, a keyslot or a digest, names this hash there
abbrev pub NamesHash : Data → Outer → List ℕ → Type 0
NamesHash d place text = text_of (member_at d place name.Hash) ≡ Some text

-- the digest of the keyslot `n` of LUKS2's metadata does
abbrev pub DigestNames : Data → ℕ → List ℕ → Type 0
DigestNames j n text = (m : ℕ) × IsDigestOf j n m × ((d : Data) × (object_at j Digests m ≡ Some d) × NamesHash d outer.Top text)

-- the derivation of that keyslot, its splitter or its digest does
abbrev pub IsLuks2Hash : Data → ℕ → List ℕ → Type 0
IsLuks2Hash j n text =
    ((d : Data) × (object_at j Keyslots n ≡ Some d) × (NamesHash d outer.Kdf text ⊎ NamesHash d outer.Af text)) ⊎ DigestNames j n text

abbrev pub IsLuks2Part : Data → ℕ → OlderPart → Type 0
IsLuks2Part j n (Cipher text) = (d : Data) × (object_at j Keyslots n ≡ Some d) × (text_of (member_at d outer.Area name.Encryption) ≡ Some text.now)
IsLuks2Part j n (Hash text) = IsLuks2Hash j n text.now
IsLuks2Part j n Untold = Unit {0}

abbrev pub IsOlderPart : Header → ℕ → OlderPart → Type 0
IsOlderPart (Luks1 bytes) n part = IsLuks1Part bytes part
IsOlderPart (Luks2 copy) n part = IsLuks2Part (content copy.meta) n part

-- what is noted of it
pub record IsOlderNote (header : Header) (n total : ℕ) (note : OlderNote) : Type 0 where
  pub slot : note.slot ≡ n
  pub older : (v : List ℕ) → IsHeader v header → length v ≡ total → IsOlder v n
  pub told : IsOlderPart header n note.part

-- ---- the line

abbrev pub part_text : ℕ → OlderPart → List ℕ
part_text slot (Cipher text) = codes "keyslot " ++ decimal slot ++ codes "'s area is in " ++ text.now
part_text slot (Hash text) = codes "keyslot " ++ decimal slot ++ codes " names the hash " ++ text.now
part_text slot Untold = codes "keyslot " ++ decimal slot ++ codes " is of an older disk"

abbrev pub older_text : OlderNote → List ℕ
older_text note = part_text note.slot note.part

abbrev pub older_line : List ℕ → List ℕ
older_line text = codes "luks: " ++ text ++ codes ": --older allows it" ++ 10 ∷ []
