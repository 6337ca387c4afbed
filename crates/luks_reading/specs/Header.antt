-- The header that counts of a volume, and why it isn't read.
use Rattle.std.specs.Prelude.{◌≡◌, ◌⊎◌, ℕ, ◌+◌, ◌-◌, List, [], ◌∷◌, length, ⊤}
use Rattle.luks_area.specs.First.{IsLeast}
use Rattle.luks_area.specs.Ranges.{part}
use Rattle.luks1_header.specs.declared.fault.HeadFault.{HeadFault}
use Rattle.luks1_header.specs.Faults.{head_key}
use Rattle.luks2_header.specs.declared.selection.Copies.{Copies}
use Rattle.luks2_header.specs.Header2.{header_at, hdr_size, uuid_field, HoldsBin2, IsUuidField, IsUuidFault}
use Rattle.luks2_header.specs.Selection.{Choice, luks1, luks2, nothing, Chosen, IsSelectFault}
use Rattle.luks_meta.specs.Accepted.{IsMeta}
use Rattle.luks_meta.specs.Content.{area_len, content}
use Rattle.luks_meta.specs.MetaFault.{IsMetaFault, meta_key}
use Rattle.luks_meta.specs.Objects.{IsAccepted}
use Rattle.luks_reading.specs.declared.header.ChosenCopy.{ChosenCopy}
use Rattle.luks_reading.specs.declared.header.Header.{Header}
use Rattle.luks_reading.specs.declared.header.Header.TheVariants.{Luks1, Luks2}
use Rattle.luks_reading.specs.declared.read_fault.ReadFault.{ReadFault}
use Rattle.luks_reading.specs.declared.read_fault.ReadFault.TheVariants.{Head, Meta, Device, Memory}

-- the JSON area of the LUKS2 copy at the place `o`
abbrev pub json_at : List ℕ → ℕ → List ℕ
json_at v o = part v (o + 4096) (hdr_size (header_at v o) - 4096)

-- `c` is the chosen copy of the volume `v`: its binary header, whose uuid is one, and the metadata of
-- its JSON area, which is accepted
pub record IsChosenCopy (v : List ℕ) (c : ChosenCopy) : Type 0 where
  pub chosen : Chosen v (luks2 c.header.hdr_offset c.copies)
  pub header : HoldsBin2 (header_at v c.header.hdr_offset) c.header
  pub uuid : IsUuidField (uuid_field (header_at v c.header.hdr_offset))
  pub metadata : IsMeta (json_at v c.header.hdr_offset) (content c.meta)
  pub area_len : area_len c.meta ≡ length (json_at v c.header.hdr_offset)

-- the header that counts of the volume `v`; of LUKS1 its bytes
abbrev pub IsHeader : List ℕ → Header → Type 0
IsHeader v (Luks1 bytes) = Chosen v luks1 × (bytes ≡ part v 0 592)
IsHeader v (Luks2 copy) = IsChosenCopy v copy

-- ---- the faults

-- the order of the faults: those of the selection and the uuid, then those of the metadata
abbrev pub read_key : ReadFault → List ℕ
read_key (Head f) = 1 ∷ head_key f
read_key (Meta f) = 2 ∷ meta_key f
read_key Device = 3 ∷ []
read_key Memory = 4 ∷ []

-- by what counts of the volume `v`; the fields of a LUKS1 header aren't judged in reading it
abbrev pub IsReadFaultAs : List ℕ → Choice → ReadFault → Type 0
IsReadFaultAs v luks1 f = ⊥
IsReadFaultAs v (luks2 o copies) (Head f) = IsUuidFault (uuid_field (header_at v o)) f
IsReadFaultAs v (luks2 o copies) (Meta f) = IsMetaFault (json_at v o) f
IsReadFaultAs v (luks2 o copies) Device = ⊥
IsReadFaultAs v (luks2 o copies) Memory = ⊥
IsReadFaultAs v nothing (Head f) = IsSelectFault v f
IsReadFaultAs v nothing (Meta f) = ⊥
IsReadFaultAs v nothing Device = ⊥
IsReadFaultAs v nothing Memory = ⊥

-- the set of the faults that stand against reading the header of the volume `v`
pub record IsReadFault (v : List ℕ) (f : ReadFault) : Type 0 where
  pub choice : Choice
  pub chosen : Chosen v choice
  pub fault : IsReadFaultAs v choice f

-- memory is taken for the metadata of LUKS2 alone: a copy counts, and its uuid has no fault
pub record NeedsMetadata (v : List ℕ) : Type 0 where
  pub place : ℕ
  pub copies : Copies
  pub chosen : Chosen v (luks2 place copies)
  pub uuid : (f : HeadFault) → IsUuidFault (uuid_field (header_at v place)) f → ⊥

-- none is taken of the others: the header is that of LUKS1, or one of the faults `TooShort` to `Uuid`
-- stands
abbrev pub TakesNoMemory : List ℕ → Type 0
TakesNoMemory v = Chosen v luks1 ⊎ ((f : HeadFault) × IsReadFault v (Head f))

-- the header isn't read by its first fault, unless the device failed or memory was refused
abbrev pub IsUnread : List ℕ → ReadFault → Type 0
IsUnread v Device = ⊤
IsUnread v Memory = NeedsMetadata v
IsUnread v f = IsLeast read_key (IsReadFault v) f

-- ---- on any device

-- what was read of a LUKS2 copy is accepted, and of a LUKS1 header it is whole
pub record IsAcceptedCopy (c : ChosenCopy) : Type 0 where
  pub uuid : IsUuidField c.header.uuid
  pub metadata : IsAccepted (content c.meta)

abbrev pub IsAcceptedHeader : Header → Type 0
IsAcceptedHeader (Luks1 bytes) = length bytes ≡ 592
IsAcceptedHeader (Luks2 copy) = IsAcceptedCopy copy
