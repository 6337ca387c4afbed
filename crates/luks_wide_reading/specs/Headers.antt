-- The header that counts of a volume, by the wider reading, and why it isn't read.
use Rattle.std.specs.Prelude.{◌≡◌, ℕ, List, length, ⊤}
use Rattle.luks_area.specs.First.{IsLeast}
use Rattle.luks1_header.specs.declared.fault.HeadFault.{HeadFault}
use Rattle.luks2_header.specs.declared.selection.Copies.{Copies}
use Rattle.luks2_header.specs.Header2.{header_at, uuid_field, HoldsBin2, IsUuidField, IsUuidFault}
use Rattle.luks2_header.specs.Selection.{luks2, Chosen}
use Rattle.luks_rules.specs.declared.fault.MetaFault.{MetaFault}
use Rattle.luks_meta.specs.Content.{area_len as narrow_len, content as narrow_content}
use Rattle.luks_reading.specs.declared.header.ChosenCopy.{ChosenCopy}
use Rattle.luks_reading.specs.declared.header.Header.{Header}
use Rattle.luks_reading.specs.declared.header.Header.TheVariants as header
use Rattle.luks_reading.specs.declared.read_fault.ReadFault.TheVariants as reading
use Rattle.luks_reading.specs.Header.{json_at, IsAcceptedHeader, IsHeader, IsUnread}
use Rattle.luks_wider.specs.Underways.{area_len}
use Rattle.luks_wider.specs.Wide.{HasUnderWay, IsWiderOf}
use Rattle.luks_wider.specs.WideFaults.{wide_key, IsUnderWayFault}
use Rattle.luks_wider.specs.declared.fault.WideFault.{WideFault}
use Rattle.luks_wider.specs.declared.wider.Wider.TheVariants as wider
use Rattle.luks_wide_reading.specs.declared.copy.UnderwayCopy.{UnderwayCopy}
use Rattle.luks_wide_reading.specs.declared.header.WideHeader.{WideHeader}
use Rattle.luks_wide_reading.specs.declared.header.WideHeader.TheVariants.{Narrow, Underway}
use Rattle.luks_wide_reading.specs.declared.read_fault.WideReadFault.{WideReadFault}
use Rattle.luks_wide_reading.specs.declared.read_fault.WideReadFault.TheVariants as unread

-- ---- where something is under way

-- the copy that counts of the volume `v` has a uuid that is one, and metadata in which something is under way
pub record IsUnderWayVolume (v : List ℕ) : Type 0 where
  pub place : ℕ
  pub copies : Copies
  pub chosen : Chosen v (luks2 place copies)
  pub uuid : (f : HeadFault) → IsUuidFault (uuid_field (header_at v place)) f → ⊥
  pub is : HasUnderWay (json_at v place)

-- ---- what is read

-- `c` is the chosen copy of the volume `v`: its binary header, whose uuid is one, and the metadata of
-- its JSON area, in which something is under way, and which is accepted by the rules of that; the narrow reading refuses it by `narrow_fault`
pub record IsUnderwayCopy (v : List ℕ) (c : UnderwayCopy) : Type 0 where
  pub chosen : Chosen v (luks2 c.header.hdr_offset c.copies)
  pub header : HoldsBin2 (header_at v c.header.hdr_offset) c.header
  pub uuid : IsUuidField (uuid_field (header_at v c.header.hdr_offset))
  pub metadata : IsWiderOf (json_at v c.header.hdr_offset) (wider.Underway c.meta)
  pub area_len : area_len c.meta ≡ length (json_at v c.header.hdr_offset)
  pub narrow : IsUnread v (reading.Meta c.narrow_fault)

-- the header that counts of the volume `v`: where nothing is under way, that of the narrow reading
abbrev pub IsWideHeader : List ℕ → WideHeader → Type 0
IsWideHeader v (Narrow h) = IsHeader v h
IsWideHeader v (Underway c) = IsUnderwayCopy v c

-- the same metadata of the same copy
pub record IsSameCopy (a b : ChosenCopy) : Type 0 where
  pub place : a.header.hdr_offset ≡ b.header.hdr_offset
  pub copies : a.copies ≡ b.copies
  pub metadata : narrow_content a.meta ≡ narrow_content b.meta
  pub area_len : narrow_len a.meta ≡ narrow_len b.meta

-- what was read is that header of the narrow reading
abbrev pub IsSameHeader : Header → WideHeader → Type 0
IsSameHeader (header.Luks1 bytes) (Narrow (header.Luks1 other)) = other ≡ bytes
IsSameHeader (header.Luks1 bytes) (Narrow (header.Luks2 other)) = ⊥
IsSameHeader (header.Luks1 bytes) (Underway c) = ⊥
IsSameHeader (header.Luks2 copy) (Narrow (header.Luks1 other)) = ⊥
IsSameHeader (header.Luks2 copy) (Narrow (header.Luks2 other)) = IsSameCopy other copy
IsSameHeader (header.Luks2 copy) (Underway c) = ⊥

-- ---- the faults

-- something is under way in the copy that counts, whose first fault by the rules of that is `f`; the narrow reading refuses it by `narrow_fault`
pub record IsUnderwayUnread (v : List ℕ) (f : WideFault) (narrow_fault : MetaFault) : Type 0 where
  pub place : ℕ
  pub copies : Copies
  pub chosen : Chosen v (luks2 place copies)
  pub uuid : (g : HeadFault) → IsUuidFault (uuid_field (header_at v place)) g → ⊥
  pub is : HasUnderWay (json_at v place)
  pub least : IsLeast wide_key (IsUnderWayFault (json_at v place)) f
  pub narrow : IsUnread v (reading.Meta narrow_fault)

-- the header isn't read by its first fault, unless the device failed or memory was refused: a fault of the metadata is that of the
-- narrow reading where nothing is under way, else that of the wider one
abbrev pub IsWideUnread : List ℕ → WideReadFault → Type 0
IsWideUnread v (unread.Read (reading.Meta f)) = (IsUnderWayVolume v → ⊥) × IsUnread v (reading.Meta f)
IsWideUnread v (unread.Read f) = IsUnread v f
IsWideUnread v (unread.Underway f narrow_fault) = IsUnderwayUnread v f narrow_fault

-- the fault isn't the volume's own: the device failed, or memory was refused
abbrev pub IsFromOutside : WideReadFault → Type 0
IsFromOutside (unread.Read reading.Device) = ⊤
IsFromOutside (unread.Read reading.Memory) = ⊤
IsFromOutside (unread.Read f) = ⊥
IsFromOutside (unread.Underway f narrow_fault) = ⊥

-- ---- on any device

-- what was read is accepted; metadata in which something is under way keeps that itself
abbrev pub IsAcceptedWide : WideHeader → Type 0
IsAcceptedWide (Narrow h) = IsAcceptedHeader h
IsAcceptedWide (Underway c) = IsUuidField c.header.uuid
