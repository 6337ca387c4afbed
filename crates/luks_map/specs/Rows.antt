-- The rows of a map, except for the gaps: where each stands, and how far it reaches.
use Rattle.std.specs.Prelude.{ℕ, ◌+◌, ◌*◌, List, [], ◌∷◌}
use Rattle.luks_area.specs.declared.area.AreaName.{AreaName}
use Rattle.luks_area.specs.declared.area.AreaName.TheVariants as name
use Rattle.luks_map.specs.declared.part.Part.{Part}
use Rattle.luks_map.specs.declared.part.Part.TheVariants.{Luks1Header, FirstCopy, SecondCopy, Luks1Keyslot, Luks2Keyslot, Segment, InHand}
use Rattle.luks_map.specs.declared.row.Row.{Row}
use Rattle.luks_map.specs.declared.row.Row.TheVariants.{Area, KeyAreasEnd, VolumeEnd, Backup}

-- what the area of this name is in LUKS2
abbrev pub luks2_part : AreaName → Part
luks2_part name.Head1 = FirstCopy
luks2_part name.Head2 = SecondCopy
luks2_part (name.Slot n) = Luks2Keyslot n
luks2_part (name.Segment n) = Segment n

-- an area and a backup stand where they begin, an end where it is
abbrev pub place : Row → ℕ
place (Area part a) = a.start
place (KeyAreasEnd header keyslots) = 2 * header + keyslots
place (VolumeEnd total) = total
place (Backup n a) = a.start

-- the row reaches to the place behind its last byte; an end has none, and no byte is a backup's
abbrev pub reach : Row → ℕ
reach (Area part a) = a.start + a.len
reach (KeyAreasEnd header keyslots) = 2 * header + keyslots
reach (VolumeEnd total) = total
reach (Backup n a) = a.start

-- the order at one place: the ends, the header, its second copy, the keyslots, the segments, each by number
abbrev pub part_rank : Part → ℕ
part_rank Luks1Header = 2
part_rank FirstCopy = 2
part_rank SecondCopy = 3
part_rank (Luks1Keyslot n state) = 4 + n
part_rank (Luks2Keyslot n) = 4 + n
part_rank (Segment n) = 260 + n
part_rank (InHand n) = 260 + n

abbrev pub rank : Row → ℕ
rank (Area part a) = part_rank part
rank (KeyAreasEnd header keyslots) = 0
rank (VolumeEnd total) = 1
rank (Backup n a) = 260 + n

abbrev pub row_key : Row → List ℕ
row_key r = place r ∷ rank r ∷ []
