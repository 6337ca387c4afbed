-- The value of a keyslot that is made with the members of another.
use Rattle.std.specs.Prelude.{◌≡◌, ℕ, ◌*◌, ◌≤◌}
use Rattle.serde_json.specs.Data.{Data}
use Rattle.luks_area.specs.Sectors.{rounded_to_sectors}
use Rattle.luks_rules.specs.declared.table.Section.TheVariants.{Digests, Keyslots}
use Rattle.luks_rules.specs.Accepted.{HasObject}
use Rattle.luks_making.specs.Conditions.{FitsSlot, IsFree, IsInRegion}
use Rattle.luks_making.specs.Keyslots.{IsMadeFrom, NewMembers, SlotMembers, slot_value}

-- `made` is the value of a keyslot with the members of the keyslot `by` of the metadata `old`, except for
-- what is new
pub record IsMadeLike (by : ℕ) (f : NewMembers) (old made : Data) : Type 0 where
  pub from : Data
  pub there : HasObject old Keyslots by from
  pub slot : SlotMembers
  pub is_made : IsMadeFrom from f slot
  pub is : made ≡ slot_value slot

-- there is room for a keyslot of these members: its number is free, the digest is there that is to name it, and its area is
-- large enough and lies in the region
pub record HasRoom (len n m : ℕ) (s : SlotMembers) (j : Data) : Type 0 where
  pub number : IsFree j n
  pub object : Data
  pub digest : HasObject j Digests m object
  pub fits : FitsSlot s
  pub large : rounded_to_sectors (s.key_size * s.stripes) ≤ s.size
  pub within : IsInRegion len j s.offset s.size
