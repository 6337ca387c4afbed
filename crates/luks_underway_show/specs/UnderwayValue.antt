-- The JSON object of a copy of a LUKS2 header in which something is under way (docs/PROFILE.md, 11).
use Rattle.std.specs.Prelude.{◌≡◌, ℕ, ◌<◌, codes, false, Option, Some, None}
use Rattle.serde_json.specs.Data.{Data, Members, no_members, null, number, object, put, string, unsigned}
use Rattle.serde_json.specs.View.{view}
use Rattle.luks_rules.specs.declared.table.Section.TheVariants.{Segments}
use Rattle.luks_rules.specs.Sizes.{IsFirst}
use Rattle.luks2_header.specs.declared.bin2.Bin2.{Bin2}
use Rattle.luks2_header.specs.declared.selection.Copies.{Copies}
use Rattle.luks_meta.specs.declared.configuration.Config.{Config}
use Rattle.luks_meta.specs.Objects.{IsConfig, IsObject}
use Rattle.luks_show.specs.declared.as_json.luks2.Objects.{Objects}
use Rattle.luks_show.specs.declared.as_json.luks2.Texts.{Texts}
use Rattle.luks_show.specs.Luks2Value.{AreTextsOf, configured, sizes_value, with_objects}
use Rattle.luks_show.specs.SegmentValues.{extent_value}
use Rattle.luks_show.specs.Texts.{copies_text}
use Rattle.luks_underway.specs.declared.segments.WideSegment.{WideSegment}
use Rattle.luks_underway.specs.Segments.{TellsWideSegment}
use Rattle.luks_underway.specs.Sides.{IsSide}
use Rattle.luks_contradictions.specs.Hot.{is_in_hand}
use Rattle.luks_underway_show.specs.declared.hotzone.Hotzone.{Hotzone}
use Rattle.luks_underway_show.specs.KeyslotValues.{IsKeyslotsValue, number_value}
use Rattle.luks_underway_show.specs.WideSegmentValues.{IsWideSegmentsValue}

-- ---- what is under way

-- the part in hand lies where the first segment in use that is in reencryption says
pub record IsHotzone (j : Data) (z : Hotzone) : Type 0 where
  pub is : IsFirst (is_in_hand j) z.segment
  pub members : WideSegment
  pub told : IsObject TellsWideSegment j Segments z.segment members
  pub offset : z.offset ≡ members.offset
  pub size : z.size ≡ members.size

-- or there is none
abbrev pub IsHot : Data → Option Hotzone → Type 0
IsHot j None = (n : ℕ) → n < 32 → is_in_hand j n ≡ false
IsHot j (Some z) = IsHotzone j z

abbrev pub hotzone_value : Option Hotzone → Data
hotzone_value None = null
hotzone_value (Some z) = object (
    put (codes "size") (extent_value z.size) (
    put (codes "segment") (number (unsigned z.segment)) (
    put (codes "offset") (number (unsigned z.offset)) no_members)))

-- the digests of both keys, and the part in hand
abbrev pub under_way_members : Option ℕ → Option ℕ → Option Hotzone → Members
under_way_members old new hot =
    put (codes "old_digest") (number_value old) (
    put (codes "new_digest") (number_value new) (
    put (codes "hotzone") (hotzone_value hot) no_members))

pub record IsUnderWayMember (j : Data) (d : Data) : Type 0 where
  pub old : Option ℕ
  pub new : Option ℕ
  pub hot : Option Hotzone
  pub is_old : IsSide j (codes "backup-previous") old
  pub is_new : IsSide j (codes "backup-final") new
  pub is_hot : IsHot j hot
  pub is : d ≡ object (under_way_members old new hot)

-- ---- the whole object

-- what the metadata says; nothing is said of the arrays of its tokens and digests
pub record AreUnderwayObjects (j : Data) (objects : Objects) : Type 0 where
  pub flags : view objects.flags ≡ configured (codes "flags") j
  pub requirements : view objects.requirements ≡ configured (codes "requirements") j
  pub keyslots : IsKeyslotsValue j (view objects.keyslots)
  pub segments : IsWideSegmentsValue j (view objects.segments)
  pub metadata : view objects.metadata ≡ j

-- the members that the binary header gives
abbrev pub copy_members : Bin2 → Copies → Data → Texts → Members
copy_members header copies sizes texts =
    put (codes "sizes") sizes (
    put (codes "seqid") (number (unsigned header.seqid)) (
    put (codes "copies") (string (copies_text copies)) (
    put (codes "subsystem") (view texts.subsystem) (
    put (codes "label") (view texts.label) (
    put (codes "uuid") (view texts.uuid) (
    put (codes "version") (number (unsigned 2)) no_members))))))

-- it is the object of a copy with this binary header and this metadata
pub record IsUnderwayValue (header : Bin2) (copies : Copies) (j : Data) (d : Data) : Type 0 where
  pub config : Config
  pub texts : Texts
  pub objects : Objects
  pub under_way : Data
  pub told_sizes : IsConfig j config
  pub told_texts : AreTextsOf header texts
  pub told_objects : AreUnderwayObjects j objects
  pub told_under_way : IsUnderWayMember j under_way
  pub is : d ≡ object (put (codes "under_way") under_way (with_objects objects (copy_members header copies (sizes_value header.hdr_size config) texts)))
