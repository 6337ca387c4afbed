-- How what is under way may contradict itself: a test for each path (LUKS2 On-Disk Format 1.1.3, 3.3, 4.9 and 4.10, and what cryptsetup 2.6 demands).
-- `Consistent` says when none stands.
use Rattle.std.specs.Prelude.{ℕ, zero, suc, ◌+◌, List, codes, Bool, true, false, ◌&&◌, ◌||◌, ◌==◌, not, nat_lt, nat_le, Option, Some, None, option_and_then, option_map}
use Rattle.std.specs.Option.{option_map_or}
use Rattle.std.specs.Str.{bytes_eq}
use Rattle.serde_json.specs.Data.{Data}
use Rattle.luks_rules.specs.declared.table.Member.TheVariants as name
use Rattle.luks_rules.specs.declared.table.Outer.TheVariants as outer
use Rattle.luks_rules.specs.declared.table.Section.TheVariants.{Segments}
use Rattle.luks_rules.specs.Faults.{member_at, object_at, type_at}
use Rattle.luks_rules.specs.Reading.{decimal_in, number_of, text_of}
use Rattle.luks_underway.specs.Kinds.{has_opal, has_reencrypt, is_hot, is_kept_back}
use Rattle.luks_underway.specs.Segments.{has_flag}
use Rattle.luks_contradictions.specs.Consistent.{requires_opal, requires_reencryption}
use Rattle.luks_contradictions.specs.Counts.{count_below}
use Rattle.luks_contradictions.specs.declared.marks.Mark.{Mark}
use Rattle.luks_contradictions.specs.declared.marks.Mark.TheVariants as mark
use Rattle.luks_contradictions.specs.declared.marks.Beside.{Beside}
use Rattle.luks_contradictions.specs.declared.marks.Beside.TheVariants as beside

-- the test holds of a number below `n`, or of each
abbrev pub any_below : (ℕ → Bool) → ℕ → Bool
any_below test zero = false
any_below test (suc n) = test n || any_below test n

abbrev pub all_below : (ℕ → Bool) → ℕ → Bool
all_below test zero = true
all_below test (suc n) = test n && all_below test n

-- ---- at `config.requirements`: what is under way isn't asked for

abbrev pub lacks_requirement : Data → Bool
lacks_requirement j = (any_below (has_reencrypt j) 32 && not (requires_reencryption j)) || (any_below (has_opal j) 32 && not (requires_opal j))

-- ---- at `keyslots.n`: another one of a lesser number says what is under way, too

abbrev pub is_second : Data → ℕ → Bool
is_second j n = has_reencrypt j n && any_below (has_reencrypt j) n

-- ---- at `segments`

-- what a segment may be: there; one that data is read by, also the part in hand; one that is kept to say how the data was, will be, or was moved
abbrev pub is_marked : Mark → Data → Bool
is_marked mark.There d = true
is_marked mark.Used d = not (is_kept_back d)
is_marked mark.Hot d = not (is_kept_back d) && is_hot d
is_marked mark.Previous d = is_kept_back d && has_flag (codes "backup-previous") d
is_marked mark.Final d = is_kept_back d && has_flag (codes "backup-final") d
is_marked mark.Moved d = is_kept_back d && has_flag (codes "backup-moved-segment") d

abbrev pub has_marked : Mark → Data → ℕ → Bool
has_marked m j n = option_map_or (is_marked m) (object_at j Segments n) false

abbrev pub count_marked : Mark → Data → ℕ
count_marked m j = count_below (has_marked m j) 32

-- how the data was and how it will be is told once each, what was moved away once at most, and one part is in hand at most
abbrev pub is_miscounted : Data → Bool
is_miscounted j =
    not (count_marked mark.Previous j == 1) || not (count_marked mark.Final j == 1) || nat_lt 1 (count_marked mark.Moved j) || nat_lt 1 (count_marked mark.Hot j)

-- the segments are numbered from 0 on without a gap, those that data is read by, of which there is one, before the others
abbrev pub is_gapped : Data → Bool
is_gapped j = count_marked mark.Used j == 0 || not (all_below (has_marked mark.Used j) (count_marked mark.Used j))
    || not (all_below (has_marked mark.There j) (count_marked mark.There j))

abbrev pub is_misparted : Data → Bool
is_misparted j = any_below (has_reencrypt j) 32 && (is_miscounted j || is_gapped j)

-- ---- at `segments.n`

abbrev pub same_text : Option (List ℕ) → Option (List ℕ) → Bool
same_text None None = true
same_text None (Some b) = false
same_text (Some a) None = false
same_text (Some a) (Some b) = bytes_eq a b

abbrev pub same_number : Option ℕ → Option ℕ → Bool
same_number None None = true
same_number None (Some b) = false
same_number (Some a) None = false
same_number (Some a) (Some b) = a == b

-- as cryptsetup compares a segment with a backup of it
abbrev pub is_like : Data → Data → Bool
is_like d e = same_text (type_at d outer.Top) (type_at e outer.Top) && same_text (text_of (member_at d outer.Top name.Encryption)) (text_of (member_at e outer.Top name.Encryption))
    && same_number (number_of (member_at d outer.Top name.SectorSize)) (number_of (member_at e outer.Top name.SectorSize))

-- where it begins, and where it ends, if not at the end of the device
abbrev pub start_of : Data → Option ℕ
start_of d = decimal_in (member_at d outer.Top name.Offset)

abbrev pub size_of : Data → Option ℕ
size_of d = decimal_in (member_at d outer.Top name.Size)

abbrev pub end_of : Data → Option ℕ
end_of d = option_and_then (λ start. option_map (λ size. start + size) (size_of d)) (start_of d)

-- the first isn't behind the second; of ends none is behind each
abbrev pub is_not_behind : Option ℕ → Option ℕ → Bool
is_not_behind a None = true
is_not_behind None (Some b) = false
is_not_behind (Some a) (Some b) = nat_le a b

abbrev pub is_within : Data → Data → Bool
is_within d e = is_not_behind (start_of e) (start_of d) && is_not_behind (end_of d) (end_of e)

-- it ends before the other begins
abbrev pub is_before : Data → Data → Bool
is_before d e = option_map_or (λ end. option_map_or (λ start. nat_le end start) (start_of e) false) (end_of d) false

abbrev pub is_meeting : Data → Data → Bool
is_meeting d e = not (is_before d e) && not (is_before e d)

-- how another segment stands to it
abbrev pub is_beside : Beside → Data → Data → Bool
is_beside beside.LikePrevious d e = is_marked mark.Previous e && is_like d e
is_beside beside.LikeFinal d e = is_marked mark.Final e && is_like d e
is_beside beside.AroundFinal d e = is_marked mark.Final e && is_within d e
is_beside beside.Meeting d e = is_marked mark.Used e && is_meeting d e

-- one of a number below `n` stands so to it
abbrev pub has_beside : Beside → Data → Data → ℕ → Bool
has_beside b j d m = option_map_or (is_beside b d) (object_at j Segments m) false

abbrev pub any_beside : Beside → Data → Data → ℕ → Bool
any_beside b j d n = any_below (has_beside b j d) n

-- it is like neither of what the data was and will be, in hand like the latter alone
abbrev pub is_unlike : Data → Data → Bool
is_unlike j d = not (any_beside beside.LikeFinal j d 32) && (is_hot d || not (any_beside beside.LikePrevious j d 32))

-- the part in hand doesn't lie within how the data will be
abbrev pub is_hot_outside : Data → Data → Bool
is_hot_outside j d = is_hot d && not (any_beside beside.AroundFinal j d 32)

-- it goes on to the end of the device, and another in use comes behind it
abbrev pub is_unended : Data → ℕ → Data → Bool
is_unended j n d = option_map_or (λ size. false) (size_of d) true && nat_lt n 31 && has_marked mark.Used j (n + 1)

abbrev pub is_out_of_place : Data → ℕ → Data → Bool
is_out_of_place j n d = any_below (has_reencrypt j) 32 && not (is_kept_back d)
    && (is_unlike j d || is_hot_outside j d || is_unended j n d || any_beside beside.Meeting j d n)
