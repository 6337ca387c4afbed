-- The lines of a map, of at most 80 columns: one for each row, and one for each gap.
use Rattle.std.specs.Prelude.{ℕ, ◌+◌, ◌-◌, ◌*◌, max, List, [], ◌∷◌, ◌++◌, ◌&&◌, codes, length, replicate, if◌then◌else◌, nat_lt}
use Rattle.std.specs.Fmt.{decimal}
use Rattle.luks_area.specs.declared.area.Area.{Area as TheArea}
use Rattle.luks_show.specs.Texts.{line}
use Rattle.luks_map.specs.declared.part.Part.{Part}
use Rattle.luks_map.specs.declared.row.Row.{Row}
use Rattle.luks_map.specs.declared.row.Row.TheVariants.{Area, KeyAreasEnd, VolumeEnd, Backup}
use Rattle.luks_map.specs.Texts.{part_text}
use Rattle.luks_map.specs.Rows.{place, reach}

-- a number at the right of 20 columns
abbrev pub column : ℕ → List ℕ
column n = replicate (20 - length (decimal n)) 32 ++ decimal n

-- what ends past the end of a volume of `total` bytes is marked
abbrev pub outside_text : ℕ → ℕ → List ℕ
outside_text total end = if nat_lt total end then codes "  outside" else []

-- two spaces part the first mark from what precedes it, one space the second from the first
abbrev pub overlap_mark : ℕ → TheArea → List ℕ
overlap_mark total a = if nat_lt total (a.start + a.len) then codes " overlap" else codes "  overlap"

-- and an area that has bytes and begins inside one above it: those above reach to `reached`
abbrev pub overlap_text : ℕ → ℕ → TheArea → List ℕ
overlap_text total reached a = if nat_lt 0 a.len && nat_lt a.start reached then overlap_mark total a else []

-- an area: its place, its length, what it is
abbrev pub area_line : ℕ → ℕ → Part → TheArea → List ℕ
area_line total reached part a =
    column a.start ++ codes " # " ++ column a.len ++ codes "  " ++ part_text part ++ outside_text total (a.start + a.len)
    ++ line (overlap_text total reached a)

-- an end: its place, and of what
abbrev pub end_line : ℕ → ℕ → List ℕ → List ℕ
end_line total at name = column at ++ codes " -                       " ++ name ++ line (outside_text total at)

-- a segment that is kept as a backup: its place, its length, its number
abbrev pub backup_line : ℕ → ℕ → TheArea → List ℕ
backup_line total n a =
    column a.start ++ codes " = " ++ column a.len ++ codes "  segment " ++ decimal n ++ codes " backup" ++ line (outside_text total (a.start + a.len))

abbrev pub row_line : ℕ → ℕ → Row → List ℕ
row_line total reached (Area part a) = area_line total reached part a
row_line total reached (KeyAreasEnd header keyslots) = end_line total (2 * header + keyslots) (codes "end of the key areas")
row_line total reached (VolumeEnd at) = end_line total at (codes "end of the volume")
row_line total reached (Backup n a) = backup_line total n a

-- the gap between two places, where there is one: its place and its length
abbrev pub gap_line : ℕ → ℕ → ℕ → List ℕ
gap_line total from to =
    if nat_lt from to then column from ++ codes " . " ++ column (to - from) ++ codes "  gap" ++ line (outside_text total to) else []

-- the rows, each behind the gap between what those above reach to and its place
abbrev pub map_lines : ℕ → ℕ → List Row → List ℕ
map_lines total reached [] = []
map_lines total reached (r ∷ rs) =
    gap_line total reached (place r) ++ row_line total reached r ++ map_lines total (max reached (reach r)) rs
