-- Metadata by the wider reading.
use Rattle.std.specs.Prelude.{◌≡◌, ℕ, List, length}
use Rattle.serde_json.specs.Data.{Data}
use Rattle.luks_json.specs.AreaText.{Json}
use Rattle.luks_rules.specs.Accepted.{IsMeta}
use Rattle.luks_rules.specs.MetaFault.{IsMetaFault}
use Rattle.luks_meta.specs.Content.{area_len, content}
use Rattle.luks_underway.specs.Kinds.{IsUnderWay}
use Rattle.luks_wider.specs.Accepted.{IsWideContent}
use Rattle.luks_wider.specs.Underways.{area_len as underway_len, content as underway_content}
use Rattle.luks_wider.specs.WideFaults.{IsUnderWayFault}
use Rattle.luks_wider.specs.declared.fault.WideFault.{WideFault}
use Rattle.luks_wider.specs.declared.fault.WideFault.TheVariants.{Meta, UnderWay}
use Rattle.luks_wider.specs.declared.wider.Wider.{Wider}
use Rattle.luks_wider.specs.declared.wider.Wider.TheVariants.{Narrow, Underway}

-- the area holds a value in which something is under way
pub record HasUnderWay (area : List ℕ) : Type 0 where
  pub value : Data
  pub json : Json area value
  pub is : IsUnderWay value

-- the value that was read, and the length in bytes of the area that it was read from
abbrev pub wider_content : Wider → Data
wider_content (Narrow m) = content m
wider_content (Underway m) = underway_content m

abbrev pub wider_len : Wider → ℕ
wider_len (Narrow m) = area_len m
wider_len (Underway m) = underway_len m

-- what was read of the area: where nothing is under way it is accepted by the rules of `luks_rules`, else by those of what is
abbrev pub IsWiderOf : List ℕ → Wider → Type 0
IsWiderOf area (Narrow m) = IsMeta area (content m)
IsWiderOf area (Underway m) = Json area (underway_content m) × IsWideContent (length area) (underway_content m)

-- nothing is under way in what was read, and its value is `j`
abbrev pub IsNarrowOf : Wider → Data → Type 0
IsNarrowOf (Narrow m) j = content m ≡ j
IsNarrowOf (Underway m) j = ⊥

abbrev pub IsNarrowFault : List ℕ → WideFault → Type 0
IsNarrowFault area (Meta f) = IsMetaFault area f
IsNarrowFault area (UnderWay path) = ⊥

-- the faults of an area: by the rules of what is under way where something is, else by those of `luks_rules`
pub data IsWiderFault (area : List ℕ) (f : WideFault) : Type 0 where
  under_way : HasUnderWay area → IsUnderWayFault area f → IsWiderFault area f
  narrow : (HasUnderWay area → ⊥) → IsNarrowFault area f → IsWiderFault area f
