-- The lines of a copy of a LUKS2 header in which something is under way (docs/PROFILE.md, 11).
use Rattle.std.specs.Prelude.{ℕ, List, [], ◌++◌, codes}
use Rattle.std.specs.Fmt.{decimal}
use Rattle.serde_json.specs.Data.{Data}
use Rattle.luks_area.specs.Text.{text_of as before_zero}
use Rattle.luks_json.specs.Names.{numbers_of_array}
use Rattle.luks_rules.specs.declared.table.Member.TheVariants as name
use Rattle.luks_rules.specs.declared.table.Outer.TheVariants as outer
use Rattle.luks_rules.specs.declared.table.Section.TheVariants as section
use Rattle.luks_rules.specs.Faults.{member_at}
use Rattle.luks_rules.specs.Reading.{text_of}
use Rattle.luks_rules.specs.Sizes.{keyslots_size}
use Rattle.luks2_header.specs.declared.bin2.Bin2.{Bin2}
use Rattle.luks2_header.specs.declared.selection.Copies.{Copies}
use Rattle.luks_show.specs.AllLines.{subsystem_line}
use Rattle.luks_show.specs.Texts.{copies_text, escaped, line}
use Rattle.luks_underway.specs.Requirements.{mandatory_in}
use Rattle.luks_underway_show.specs.KeyslotLines.{keyslot_lines}
use Rattle.luks_underway_show.specs.SegmentLines.{segment_lines}
use Rattle.luks_underway_show.specs.Shown.{number_shown, numbers_shown, section_listed, text_shown, texts_shown}
use Rattle.luks_underway_show.specs.declared.lines.Lines.{Lines}
use Rattle.luks_underway_show.specs.declared.lines.Lines.TheVariants.{Few, All}

abbrev pub subsystem_listed : Lines → Bin2 → List ℕ
subsystem_listed Few header = []
subsystem_listed All header = subsystem_line header

abbrev pub name_lines : Bin2 → List ℕ
name_lines header =
    line (codes "luks2") ++ (codes "uuid " ++ line (escaped (before_zero header.uuid))) ++ (codes "label " ++ line (escaped (before_zero header.label)))

abbrev pub copy_lines : Bin2 → Copies → List ℕ
copy_lines header copies = codes "copies " ++ copies_text copies ++ codes " seqid " ++ line (decimal header.seqid)

abbrev pub size_line : Bin2 → Data → List ℕ
size_line header j = codes "header-size " ++ decimal header.hdr_size ++ codes " keyslots-size " ++ line (number_shown (keyslots_size j))

-- the sizes, and what the metadata asks of who uses the volume
abbrev pub metadata_lines : Bin2 → Data → List ℕ
metadata_lines header j = size_line header j ++ (codes "requirements " ++ line (texts_shown (mandatory_in j)))

-- what the header says of itself
abbrev pub header_lines : Lines → Bin2 → Copies → Data → List ℕ
header_lines lines header copies j = name_lines header ++ subsystem_listed lines header ++ copy_lines header copies ++ metadata_lines header j

abbrev pub token_listed : ℕ → Data → List ℕ
token_listed n d =
    codes "token " ++ decimal n ++ codes " " ++ text_shown (text_of (member_at d outer.Top name.Kind)) ++ codes " keyslots "
    ++ line (numbers_shown (numbers_of_array (member_at d outer.Top name.Keyslots)))

abbrev pub digest_listed : ℕ → Data → List ℕ
digest_listed n d =
    codes "digest " ++ decimal n ++ codes " " ++ text_shown (text_of (member_at d outer.Top name.Hash)) ++ codes " keyslots "
    ++ numbers_shown (numbers_of_array (member_at d outer.Top name.Keyslots)) ++ codes " segments "
    ++ line (numbers_shown (numbers_of_array (member_at d outer.Top name.Segments)))

-- the whole listing
abbrev pub underway_lines : Lines → Bin2 → Copies → Data → List ℕ
underway_lines lines header copies j =
    header_lines lines header copies j ++ section_listed (keyslot_lines lines j) j section.Keyslots ++ section_listed token_listed j section.Tokens
    ++ section_listed (segment_lines lines) j section.Segments ++ section_listed digest_listed j section.Digests
