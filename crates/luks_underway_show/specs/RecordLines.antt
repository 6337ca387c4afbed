-- The lines of keyslots and segments, by the records that are read of them. That they are those of the metadata's value is a part of each contract that has
-- the value (`KeyslotLines`, `SegmentLines`).
use Rattle.std.specs.Prelude.{ℕ, List, [], ◌++◌, codes, Option}
use Rattle.std.specs.Fmt.{decimal}
use Rattle.serde_json.specs.Data.{Data}
use Rattle.luks_meta.specs.declared.keyslots.Keyslot.{Keyslot}
use Rattle.luks_meta.specs.declared.member.Extent.{Extent}
use Rattle.luks_meta.specs.declared.member.Extent.TheVariants.{Fixed, Dynamic}
use Rattle.luks_show.specs.AllLines.{costs_line, encryption_line, salt_line}
use Rattle.luks_show.specs.Luks2Lines.{keyslot_line}
use Rattle.luks_show.specs.Texts.{escaped, line}
use Rattle.luks_underway.specs.declared.reencryption.ReencryptArea.{ReencryptArea}
use Rattle.luks_underway.specs.declared.reencryption.Reencryption.{Reencryption}
use Rattle.luks_underway.specs.declared.resilience.Checksum.{Checksum}
use Rattle.luks_underway.specs.declared.resilience.Resilience.{Resilience}
use Rattle.luks_underway.specs.declared.resilience.Resilience.TheVariants as kept_by
use Rattle.luks_underway.specs.declared.segments.WideKind.{WideKind}
use Rattle.luks_underway.specs.declared.segments.WideKind.TheVariants.{Crypt, Linear, HwOpal, HwOpalCrypt}
use Rattle.luks_underway.specs.declared.segments.WideSegment.{WideSegment}
use Rattle.luks_underway.specs.declared.slots.WideKeyslot.{WideKeyslot}
use Rattle.luks_underway.specs.declared.slots.WideKeyslot.TheVariants.{Luks2, Reencrypt}
use Rattle.luks_underway_show.specs.KeyslotLines.{direction_text, mode_text}
use Rattle.luks_underway_show.specs.SegmentLines.{flags_shown, opal_line}
use Rattle.luks_underway_show.specs.Shown.{digest_shown}
use Rattle.luks_underway_show.specs.declared.lines.Lines.{Lines}
use Rattle.luks_underway_show.specs.declared.lines.Lines.TheVariants.{Few, All}

-- ---- keyslots

abbrev pub checksum_text : Checksum → List ℕ
checksum_text k = codes " " ++ escaped k.hash.now ++ codes " " ++ decimal k.sector_size

abbrev pub shift_text : ℕ → List ℕ
shift_text n = codes " " ++ decimal n

abbrev pub resilience_text : Resilience → List ℕ
resilience_text kept_by.Nothing = codes "none"
resilience_text kept_by.Journal = codes "journal"
resilience_text (kept_by.Checksum k) = codes "checksum" ++ checksum_text k
resilience_text (kept_by.Datashift n) = codes "datashift" ++ shift_text n
resilience_text (kept_by.DatashiftJournal n) = codes "datashift-journal" ++ shift_text n
resilience_text (kept_by.DatashiftChecksum k n) = codes "datashift-checksum" ++ checksum_text k ++ shift_text n

-- what is done and which way; what it is mended by
abbrev pub mode_words : ℕ → Reencryption → List ℕ
mode_words n k = codes "keyslot " ++ decimal n ++ codes " reencrypt " ++ mode_text k.mode ++ codes " " ++ direction_text k.direction

abbrev pub kept_words : ReencryptArea → Option ℕ → List ℕ
kept_words a digest =
    codes " area " ++ decimal a.offset ++ codes " " ++ decimal a.size ++ codes " " ++ resilience_text a.resilience ++ codes " digest "
    ++ line (digest_shown digest)

abbrev pub reencryption_text : ℕ → Reencryption → Option ℕ → List ℕ
reencryption_text n k digest = mode_words n k ++ kept_words k.area digest

abbrev pub further_key_text : Lines → ℕ → Keyslot → List ℕ
further_key_text Few n k = []
further_key_text All n k = costs_line n k.kdf.cost ++ salt_line n k.kdf.salt.items

abbrev pub keyslot_text : Lines → ℕ → WideKeyslot → Option ℕ → List ℕ
keyslot_text lines n (Luks2 k) digest = keyslot_line n k digest ++ further_key_text lines n k
keyslot_text lines n (Reencrypt k) digest = reencryption_text n k digest

-- ---- segments

abbrev pub kind_text : WideKind → List ℕ
kind_text (Crypt e) = codes "crypt"
kind_text Linear = codes "linear"
kind_text (HwOpal o) = codes "hw-opal"
kind_text (HwOpalCrypt o e) = codes "hw-opal-crypt"

abbrev pub extent_text : Extent → List ℕ
extent_text (Fixed n) = decimal n
extent_text Dynamic = codes "dynamic"

abbrev pub kind_words : ℕ → WideKind → List ℕ
kind_words n kind = codes "segment " ++ decimal n ++ codes " " ++ kind_text kind

abbrev pub place_words : WideSegment → Option Data → List ℕ
place_words s flags = codes " " ++ decimal s.offset ++ codes " " ++ extent_text s.size ++ line (flags_shown flags)

abbrev pub members_text : ℕ → WideSegment → Option Data → List ℕ
members_text n s flags = kind_words n s.kind ++ place_words s flags

abbrev pub encryption_text : ℕ → WideKind → List ℕ
encryption_text n (Crypt e) = encryption_line n e
encryption_text n Linear = []
encryption_text n (HwOpal o) = opal_line n o
encryption_text n (HwOpalCrypt o e) = encryption_line n e ++ opal_line n o

abbrev pub further_segment_text : Lines → ℕ → WideKind → List ℕ
further_segment_text Few n kind = []
further_segment_text All n kind = encryption_text n kind

abbrev pub segment_text : Lines → ℕ → WideSegment → Option Data → List ℕ
segment_text lines n s flags = members_text n s flags ++ further_segment_text lines n s.kind
