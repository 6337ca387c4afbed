-- What has been judged of the chosen copy's uuid and JSON area.
use Rattle.std.specs.Prelude.{ℕ, ◌+◌, ◌-◌, List, ⊤}
use Rattle.serde_json.specs.Data.{Data}
use Rattle.luks_area.specs.First.{IsLeast}
use Rattle.luks_area.specs.Ranges.{part}
use Rattle.luks1_header.specs.declared.fault.HeadFault.{HeadFault}
use Rattle.luks1_header.specs.Faults.{head_key}
use Rattle.luks2_header.specs.declared.bin2.Bin2.{Bin2}
use Rattle.luks2_header.specs.Header2.{IsUuidFault}
use Rattle.luks_rules.specs.declared.fault.MetaFault.{MetaFault}
use Rattle.luks_meta.specs.Accepted.{IsMeta}
use Rattle.luks_meta.specs.MetaFault.{IsMetaFault, meta_key}
use Rattle.luks_reading.specs.declared.read_fault.ReadFault.{ReadFault}
use Rattle.luks_reading.specs.declared.read_fault.ReadFault.TheVariants.{Head, Meta, Device, Memory}

-- the JSON area of the copy with the binary header `h`
abbrev pub json_of : List ℕ → Bin2 → List ℕ
json_of v h = part v (h.hdr_offset + 4096) (h.hdr_size - 4096)

-- neither the uuid's field nor the JSON area has a fault, and the area holds the value `j`
pub record IsCleared (uuid json : List ℕ) (j : Data) : Type 0 where
  pub uuid_faultless : (f : HeadFault) → IsUuidFault uuid f → ⊥
  pub faultless : (f : MetaFault) → IsMetaFault json f → ⊥
  pub meta : IsMeta json j

pub record IsMetaRefusal (uuid json : List ℕ) (f : MetaFault) : Type 0 where
  pub uuid_faultless : (g : HeadFault) → IsUuidFault uuid g → ⊥
  pub least : IsLeast meta_key (IsMetaFault json) f

-- the copy is refused by its uuid or its metadata, unless the device failed or memory was refused
abbrev pub CopyRefused : List ℕ → List ℕ → ReadFault → Type 0
CopyRefused uuid json (Head f) = IsLeast head_key (IsUuidFault uuid) f
CopyRefused uuid json (Meta f) = IsMetaRefusal uuid json f
CopyRefused uuid json Device = ⊤
CopyRefused uuid json Memory = (g : HeadFault) → IsUuidFault uuid g → ⊥

-- the fault isn't the volume's own: the device failed, or memory was refused
abbrev pub IsFromOutside : ReadFault → Type 0
IsFromOutside Device = ⊤
IsFromOutside Memory = ⊤
IsFromOutside (Head f) = ⊥
IsFromOutside (Meta f) = ⊥
