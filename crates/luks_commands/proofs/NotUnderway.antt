-- If the narrow reading reads the header, or refuses the selection of a copy or its uuid, nothing is under way.
use Rattle.std.proofs.Common.{◌≡◌, ℕ, List, subst}
use Rattle.luks1_header.specs.declared.fault.HeadFault.{HeadFault}
use Rattle.luks2_header.specs.Selection.{Choice, luks1, luks2, Chosen}
use Rattle.luks2_header.proofs.ChoiceFacts.{choices_agree}
use Rattle.luks_meta.specs.Content.{content}
use Rattle.luks_reading.specs.declared.header.Header.{Header}
use Rattle.luks_reading.specs.declared.header.Header.TheVariants.{Luks1, Luks2}
use Rattle.luks_reading.specs.declared.read_fault.ReadFault.{ReadFault}
use Rattle.luks_reading.specs.declared.read_fault.ReadFault.TheVariants as reading
use Rattle.luks_reading.specs.Header.{json_at, IsHeader, IsReadFaultAs, IsUnread}
use Rattle.luks_wider.specs.Wide.{HasUnderWay}
use Rattle.luks_wider.proofs.WiderFacts.{none_of_accepted}
use Rattle.luks_wide_reading.specs.declared.read_fault.WideReadFault.TheVariants as unread
use Rattle.luks_wide_reading.specs.Headers.{IsFromOutside, IsUnderWayVolume, IsWideUnread}

-- the header was read
pub read_narrow : (v : List ℕ) (h : Header) → IsHeader v h → IsUnderWayVolume v → ⊥
read_narrow v (Luks1 bytes) is u =
    let same : luks2 u.place u.copies ≡ luks1 = choices_agree v (luks2 u.place u.copies) luks1 u.chosen is.0 in absurd (cc)
read_narrow v (Luks2 copy) is u =
    let same : luks2 u.place u.copies ≡ luks2 copy.header.hdr_offset copy.copies = choices_agree v (luks2 u.place u.copies) (luks2 copy.header.hdr_offset copy.copies) u.chosen is.chosen in
    let place : u.place ≡ copy.header.hdr_offset = cc in
    none_of_accepted (json_at v copy.header.hdr_offset) (content copy.meta) is.metadata (subst (λ (at : ℕ). HasUnderWay (json_at v at)) place u.is)

head_as : (v : List ℕ) (c : Choice) (f : HeadFault) → Chosen v c → IsReadFaultAs v c (reading.Head f) → IsUnderWayVolume v → ⊥
head_as v c f chosen fault u =
    u.uuid f (subst (λ (d : Choice). IsReadFaultAs v d (reading.Head f)) (choices_agree v c (luks2 u.place u.copies) chosen u.chosen) fault)

-- no copy counts, or its uuid is none
pub unread_head : (v : List ℕ) (f : HeadFault) → IsUnread v (reading.Head f) → IsUnderWayVolume v → ⊥
unread_head v f is u = head_as v is.0.choice f is.0.chosen is.0.fault u

-- so a volume in which something is under way isn't refused by a fault of its own there
pub unread_narrow : (v : List ℕ) (f : ReadFault) → IsWideUnread v (unread.Read f) → IsUnderWayVolume v → IsFromOutside (unread.Read f)
unread_narrow v (reading.Head f) is u = unread_head v f is u
unread_narrow v (reading.Meta f) is u = is.0 u
unread_narrow v reading.Device is u = tt
unread_narrow v reading.Memory is u = tt
