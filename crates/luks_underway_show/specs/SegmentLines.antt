-- The lines of segments, as the object `d` with the number `n` says them (LUKS2 On-Disk Format 1.1.3, 3.3 and 4.10).
use Rattle.std.specs.Prelude.{ℕ, List, [], ◌++◌, codes, Bool, ◌||◌, if◌then◌else◌, Option, option_and_then}
use Rattle.std.specs.Fmt.{decimal}
use Rattle.std.specs.Option.{option_map_or}
use Rattle.serde_json.specs.Data.{Data, Items, no_items, item}
use Rattle.serde_json.specs.Find.{as_array}
use Rattle.luks_rules.specs.declared.table.Member.TheVariants as name
use Rattle.luks_rules.specs.declared.table.Outer.TheVariants as outer
use Rattle.luks_rules.specs.Faults.{member_at, type_at}
use Rattle.luks_rules.specs.Reading.{decimal_in, extent_of, text_of}
use Rattle.luks_show.specs.Texts.{line}
use Rattle.luks_underway.specs.declared.opal.Opal.{Opal}
use Rattle.luks_underway.specs.Kinds.{is_opal, is_type}
use Rattle.luks_underway.specs.Segments.{flags_at, opal_key_size, opal_number, opal_size, sector_size_at}
use Rattle.luks_underway_show.specs.Shown.{extent_shown, items_shown, number_shown, text_shown, type_shown}
use Rattle.luks_underway_show.specs.declared.lines.Lines.{Lines}
use Rattle.luks_underway_show.specs.declared.lines.Lines.TheVariants.{Few, All}

-- its flags, all of them; of none nothing is said
abbrev pub items_as_flags : Items → List ℕ
items_as_flags no_items = []
items_as_flags (item d ds) = codes " flags " ++ items_shown (item d ds)

abbrev pub flags_shown : Option Data → List ℕ
flags_shown v = option_map_or items_as_flags (option_and_then as_array v) []

abbrev pub segment_line : ℕ → Data → List ℕ
segment_line n d =
    codes "segment " ++ decimal n ++ codes " " ++ type_shown (type_at d outer.Top) ++ codes " " ++ number_shown (decimal_in (member_at d outer.Top name.Offset))
    ++ codes " " ++ extent_shown (option_and_then extent_of (text_of (member_at d outer.Top name.Size))) ++ line (flags_shown (flags_at d))

-- with `--all`: how it is encrypted
abbrev pub encryption_listed : ℕ → Data → List ℕ
encryption_listed n d =
    codes "encryption " ++ decimal n ++ codes " " ++ text_shown (text_of (member_at d outer.Top name.Encryption)) ++ codes " sector-size "
    ++ number_shown (sector_size_at d) ++ codes " iv-tweak " ++ line (number_shown (decimal_in (member_at d outer.Top name.IvTweak)))

-- and of a disk that encrypts itself by which range, by a key of how many bytes, and how long that range is
abbrev pub opal_words : ℕ → List ℕ → List ℕ → List ℕ → List ℕ
opal_words n range key_bytes size = codes "opal " ++ decimal n ++ codes " range " ++ range ++ codes " key-bytes " ++ key_bytes ++ codes " size " ++ line size

abbrev pub opal_line : ℕ → Opal → List ℕ
opal_line n o = opal_words n (decimal o.segment_number) (decimal o.key_size) (decimal o.segment_size)

abbrev pub opal_listed : ℕ → Data → List ℕ
opal_listed n d = opal_words n (number_shown (opal_number d)) (number_shown (opal_key_size d)) (number_shown (opal_size d))

-- software encrypts it
abbrev pub is_crypt : Data → Bool
is_crypt d = is_type d (codes "crypt") || is_type d (codes "hw-opal-crypt")

abbrev pub further_segment_lines : Lines → ℕ → Data → List ℕ
further_segment_lines Few n d = []
further_segment_lines All n d = (if is_crypt d then encryption_listed n d else []) ++ (if is_opal d then opal_listed n d else [])

abbrev pub segment_lines : Lines → ℕ → Data → List ℕ
segment_lines lines n d = segment_line n d ++ further_segment_lines lines n d
