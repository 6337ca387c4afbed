-- The table of dmsetup by which data is read of a volume in whose metadata `j` something is under way, and whose data ends at byte `end`: a line for each
-- segment that isn't a backup, by number, each behind the one before it (LUKS2 On-Disk Format 1.1.3, 3.3; the tables of the kernel's targets `crypt`, `linear`
-- and `error`). All places and lengths in it are in sectors of 512 bytes. `DEVICE` stands for the device that has the data.
use Rattle.std.specs.Prelude.{ℕ, zero, suc, ◌+◌, ◌-◌, ◌/◌, List, [], ◌++◌, codes, nat_eq, if◌then◌else◌, Option, Some, None, option_and_then, unwrap_or}
use Rattle.std.specs.Fmt.{decimal}
use Rattle.std.specs.Option.{option_map_or}
use Rattle.serde_json.specs.Data.{Data}
use Rattle.luks_rules.specs.declared.table.Member.TheVariants as name
use Rattle.luks_rules.specs.declared.table.Outer.TheVariants as outer
use Rattle.luks_rules.specs.declared.table.Section.TheVariants.{Segments}
use Rattle.luks_rules.specs.Faults.{member_at, object_at}
use Rattle.luks_rules.specs.Reading.{Field, whole, decimal_in, extent_of, text_of}
use Rattle.luks_show.specs.Texts.{line}
use Rattle.luks_underway.specs.Kinds.{is_hot, is_kept_back}
use Rattle.luks_underway.specs.Segments.{sector_size_at}
use Rattle.luks_underway.specs.Sides.{is_named}
use Rattle.luks_underway_show.specs.SegmentLines.{is_crypt}
use Rattle.luks_underway_show.specs.Shown.{least_below, number_shown, text_shown}

-- ---- where the segment `d` lies

abbrev pub start_at : Data → ℕ
start_at d = unwrap_or (decimal_in (member_at d outer.Top name.Offset)) 0

-- it has so many bytes, or goes on to the end
abbrev pub length_by : ℕ → ℕ → Option Field → ℕ
length_by end start (Some (whole bytes)) = bytes
length_by end start _ = end - start

abbrev pub length_at : ℕ → Data → ℕ
length_at end d = length_by end (start_at d) (option_and_then extent_of (text_of (member_at d outer.Top name.Size)))

-- how long it is in the table, where a backup isn't
abbrev pub sectors_in : ℕ → Data → ℕ
sectors_in end d = if is_kept_back d then 0 else length_at end d / 512

abbrev pub sectors_at : ℕ → Data → ℕ → ℕ
sectors_at end j n = option_map_or (sectors_in end) (object_at j Segments n) 0

-- ---- its line

-- what stands for the key of a digest, in hexadecimal digits
abbrev pub key_word : Option ℕ → List ℕ
key_word None = codes "KEY"
key_word (Some n) = codes "KEY-" ++ decimal n

-- the digest that names the segment `n`; of several, as the part in hand may have, the least
abbrev pub segment_digest : Data → ℕ → Option ℕ
segment_digest j n = least_below (is_named j (codes "segments") n) 32

-- sectors are encrypted each by itself, of 512 bytes where nothing else is said
abbrev pub sector_size_by : Option ℕ → List ℕ
sector_size_by None = []
sector_size_by (Some n) = if nat_eq n 512 then [] else codes " 1 sector_size:" ++ decimal n

abbrev pub crypt_target : Option ℕ → Data → List ℕ
crypt_target key d =
    codes "crypt " ++ text_shown (text_of (member_at d outer.Top name.Encryption)) ++ codes " " ++ key_word key ++ codes " "
    ++ number_shown (decimal_in (member_at d outer.Top name.IvTweak)) ++ codes " DEVICE " ++ decimal (start_at d / 512) ++ line (sector_size_by (sector_size_at d))

abbrev pub linear_target : Data → List ℕ
linear_target d = codes "linear DEVICE " ++ line (decimal (start_at d / 512))

-- sectors of either key may be in the part in hand: none of it is read. What only the disk encrypts is read as it is
abbrev pub target : Option ℕ → Data → List ℕ
target key d = if is_hot d then line (codes "error") else (if is_crypt d then crypt_target key d else linear_target d)

abbrev pub place_text : ℕ → ℕ → List ℕ
place_text place sectors = decimal place ++ codes " " ++ decimal sectors ++ codes " "

-- at this place of the table; of no sector there is no line
abbrev pub part_line : ℕ → Option ℕ → ℕ → Data → List ℕ
part_line end key place d = if nat_eq (sectors_in end d) 0 then [] else place_text place (sectors_in end d) ++ target key d

-- ---- the table

abbrev pub part_listed : ℕ → Data → ℕ → ℕ → List ℕ
part_listed end j n place = option_map_or (part_line end (segment_digest j n) place) (object_at j Segments n) []

-- the sectors of the segments below `n`, and their lines
unfoldable pub place_below : ℕ → Data → ℕ → ℕ
place_below end j zero = 0
place_below end j (suc n) = place_below end j n + sectors_at end j n

unfoldable pub parts_below : ℕ → Data → ℕ → List ℕ
parts_below end j zero = []
parts_below end j (suc n) = parts_below end j n ++ part_listed end j n (place_below end j n)

abbrev pub table_lines : ℕ → Data → List ℕ
table_lines end j = parts_below end j 32
