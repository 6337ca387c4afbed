-- The rows of metadata in which something is under way (LUKS2 On-Disk Format 1.1.3, 3.2.2, 3.2.3, 3.3, 3.5 and 4.10): which members an object has, in
-- the order of the bytes of their paths, and when one breaks its rule.
use Rattle.std.specs.Prelude.{ℕ, List, [], ◌∷◌, ◌++◌, map, codes, Bool, true, false, ◌&&◌, not, if◌then◌else◌, Option, option_and_then, is_some}
use Rattle.std.specs.Option.{option_map_or}
use Rattle.std.specs.Str.{bytes_eq}
use Rattle.std.specs.List.{list_any}
use Rattle.serde_json.specs.Data.{Data}
use Rattle.serde_json.specs.Find.{as_object, get}
use Rattle.luks_rules.specs.declared.table.Member.TheVariants as name
use Rattle.luks_rules.specs.declared.table.Outer.TheVariants as outer
use Rattle.luks_rules.specs.declared.table.Row.{Row}
use Rattle.luks_rules.specs.declared.table.Rule.TheVariants as rule
use Rattle.luks_rules.specs.declared.table.Section.{Section}
use Rattle.luks_rules.specs.declared.table.Section.TheVariants.{Config, Digests, Keyslots, Segments, Tokens}
use Rattle.luks_rules.specs.Faults.{member_at, outer_at, row_path, type_at}
use Rattle.luks_rules.specs.Reading.{reads, text_of, number_in, decimal_in}
use Rattle.luks_rules.specs.Sizes.{inside_at}
use Rattle.luks_rules.specs.Table.{config_rows, digest_rows, keyslot_rows, segment_rows, token_rows}
use Rattle.luks_underway.specs.Kinds.{is_opal, is_reencrypt, is_type}
use Rattle.luks_underway.specs.Members.{positive_in, shift_in, unit_in}
use Rattle.luks_underway.specs.Reencryptions.{direction_in, mode_in}
use Rattle.luks_underway.specs.Segments.{are_flags, flags_at, opal_key_size, opal_number, opal_size, sector_size_at}
use Rattle.luks_wider.specs.declared.rows.NewRow.{NewRow}
use Rattle.luks_wider.specs.declared.rows.NewRow.TheVariants as new
use Rattle.luks_wider.specs.declared.rows.WideRow.{WideRow}
use Rattle.luks_wider.specs.declared.rows.WideRow.TheVariants.{Known, New}

-- ---- which rows an object has

abbrev pub reencrypt_rows : List NewRow
reencrypt_rows =
    new.Area ∷ new.AreaHash ∷ new.AreaOffset ∷ new.AreaSector ∷ new.AreaShift ∷ new.AreaSize ∷ new.AreaKind ∷ new.Direction ∷ new.KeySize ∷ new.Mode
    ∷ new.Priority ∷ []

abbrev pub opal_rows : List NewRow
opal_rows = new.Encryption ∷ new.Flags ∷ new.IvTweak ∷ new.Offset ∷ new.OpalKey ∷ new.OpalNumber ∷ new.OpalSize ∷ new.Sector ∷ new.Size ∷ []

-- the flags of a segment follow its encryption, the first of its rows
abbrev pub with_flags : List Row → List WideRow
with_flags [] = New new.Flags ∷ []
with_flags (r ∷ rs) = Known r ∷ New new.Flags ∷ map Known rs

abbrev pub rows_for : Section → Data → List WideRow
rows_for Config d = map Known config_rows ++ New new.Requirements ∷ []
rows_for Digests d = map Known digest_rows
rows_for Keyslots d = if is_reencrypt d then map New reencrypt_rows else map Known keyslot_rows
rows_for Segments d = if is_opal d then map New opal_rows else with_flags segment_rows
rows_for Tokens d = map Known token_rows

-- ---- paths

abbrev pub new_path : NewRow → List ℕ
new_path new.Area = codes "area"
new_path new.AreaHash = codes "area.hash"
new_path new.AreaOffset = codes "area.offset"
new_path new.AreaSector = codes "area.sector_size"
new_path new.AreaShift = codes "area.shift_size"
new_path new.AreaSize = codes "area.size"
new_path new.AreaKind = codes "area.type"
new_path new.Direction = codes "direction"
new_path new.Encryption = codes "encryption"
new_path new.Flags = codes "flags"
new_path new.IvTweak = codes "iv_tweak"
new_path new.KeySize = codes "key_size"
new_path new.Mode = codes "mode"
new_path new.Offset = codes "offset"
new_path new.OpalKey = codes "opal_key_size"
new_path new.OpalNumber = codes "opal_segment_number"
new_path new.OpalSize = codes "opal_segment_size"
new_path new.Priority = codes "priority"
new_path new.Requirements = codes "requirements"
new_path new.Sector = codes "sector_size"
new_path new.Size = codes "size"

abbrev pub wide_path : WideRow → List ℕ
wide_path (Known r) = row_path r
wide_path (New r) = new_path r

-- ---- when a new row's member breaks its rule; `d` is the object

abbrev pub checksum_types : List (List ℕ)
checksum_types = codes "checksum" ∷ codes "datashift-checksum" ∷ []

abbrev pub shift_types : List (List ℕ)
shift_types = codes "datashift" ∷ codes "datashift-journal" ∷ codes "datashift-checksum" ∷ []

abbrev pub area_types : List (List ℕ)
area_types = codes "none" ∷ codes "journal" ∷ codes "checksum" ∷ codes "datashift" ∷ codes "datashift-journal" ∷ codes "datashift-checksum" ∷ []

-- the type is one of the list, or a text that isn't
abbrev pub is_of : List (List ℕ) → Option (List ℕ) → Bool
is_of kinds t = option_map_or (λ k. list_any (λ l. bytes_eq k l) kinds) t false

abbrev pub is_none_of : List (List ℕ) → Option (List ℕ) → Bool
is_none_of kinds t = option_map_or (λ k. not (list_any (λ l. bytes_eq k l) kinds)) t false

abbrev pub area_type : Data → Option (List ℕ)
area_type d = type_at d outer.Area

abbrev pub has_area : Data → Bool
has_area d = is_some (option_and_then as_object (outer_at d outer.Area))

-- the members of an area are judged where it is an object of no unlisted type
abbrev pub has_judged_area : Data → Bool
has_judged_area d = has_area d && not (is_none_of area_types (area_type d))

-- a segment of an unlisted type is judged no further
abbrev pub segment_types : List (List ℕ)
segment_types = codes "crypt" ∷ codes "linear" ∷ codes "hw-opal" ∷ codes "hw-opal-crypt" ∷ []

abbrev pub is_known_segment : Data → Bool
is_known_segment d = not (is_none_of segment_types (type_at d outer.Top))

abbrev pub is_opal_crypt : Data → Bool
is_opal_crypt d = is_type d (codes "hw-opal-crypt")

-- what `config.requirements` has to be, `d` being `config`
abbrev pub are_requirements_of : Data → Bool
are_requirements_of d = option_map_or (λ r. is_some (as_object r) && are_flags (get (codes "mandatory") r)) (get (codes "requirements") d) true

abbrev pub breaks_new : NewRow → Data → Bool
breaks_new new.Area d = not (has_area d)
breaks_new new.AreaHash d = has_area d && is_of checksum_types (area_type d) && not (is_some (text_of (member_at d outer.Area name.Hash)))
breaks_new new.AreaOffset d = has_judged_area d && not (is_some (decimal_in (member_at d outer.Area name.Offset)))
breaks_new new.AreaSector d = has_area d && is_of checksum_types (area_type d) && not (is_some (unit_in (member_at d outer.Area name.SectorSize)))
breaks_new new.AreaShift d = has_area d && is_of shift_types (area_type d) && not (is_some (shift_in (inside_at outer.Area (codes "shift_size") d)))
breaks_new new.AreaSize d = has_judged_area d && not (is_some (decimal_in (member_at d outer.Area name.Size)))
breaks_new new.AreaKind d = has_area d && not (is_some (area_type d))
breaks_new new.Direction d = not (is_some (direction_in d))
breaks_new new.Encryption d = is_opal_crypt d && not (is_some (text_of (member_at d outer.Top name.Encryption)))
breaks_new new.Flags d = is_known_segment d && not (are_flags (flags_at d))
breaks_new new.IvTweak d = is_opal_crypt d && not (is_some (decimal_in (member_at d outer.Top name.IvTweak)))
breaks_new new.KeySize d = not (is_some (number_in 1 1 (member_at d outer.Top name.KeySize)))
breaks_new new.Mode d = not (is_some (mode_in d))
breaks_new new.Offset d = not (is_some (decimal_in (member_at d outer.Top name.Offset)))
breaks_new new.OpalKey d = not (is_some (opal_key_size d))
breaks_new new.OpalNumber d = not (is_some (opal_number d))
breaks_new new.OpalSize d = not (is_some (opal_size d))
breaks_new new.Priority d = not (is_some (reads (rule.MayBeNumber 0 2) (member_at d outer.Top name.Priority)))
breaks_new new.Requirements d = not (are_requirements_of d)
breaks_new new.Sector d = is_opal_crypt d && not (is_some (sector_size_at d))
breaks_new new.Size d = not (is_some (positive_in (member_at d outer.Top name.Size)))

-- the only type among them that may be unlisted: that of the area
abbrev pub is_foreign : NewRow → Data → Bool
is_foreign new.AreaKind d = has_area d && is_none_of area_types (area_type d)
is_foreign _ d = false
