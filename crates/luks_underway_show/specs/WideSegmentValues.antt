-- Segments in the JSON object of a copy in which something is under way.
use Rattle.std.specs.Prelude.{◌≡◌, ℕ, ◌+◌, List, [], ◌∷◌, ◌++◌, codes, Option, unwrap_or}
use Rattle.serde_json.specs.Data.{Data, Members, array, no_items, no_members, number, object, put, string, unsigned}
use Rattle.serde_json.specs.View.{items_of}
use Rattle.luks_rules.specs.declared.table.Section.TheVariants as section
use Rattle.luks_meta.specs.declared.segments.Encryption.{Encryption}
use Rattle.luks_meta.specs.declared.segments.SegmentKind.TheVariants as narrow
use Rattle.luks_meta.specs.Objects.{IsMissing, IsObject}
use Rattle.luks_show.specs.SegmentValues.{extent_value, integrity_at, with_integrity, with_kind}
use Rattle.luks_underway.specs.declared.opal.Opal.{Opal}
use Rattle.luks_underway.specs.declared.segments.WideKind.{WideKind}
use Rattle.luks_underway.specs.declared.segments.WideKind.TheVariants as wide
use Rattle.luks_underway.specs.declared.segments.WideSegment.{WideSegment}
use Rattle.luks_underway.specs.Segments.{flags_at, TellsWideSegment}

-- the range of a disk that encrypts itself; its key's length and its own are in bytes
abbrev pub opal_members : Opal → Members
opal_members o =
    put (codes "size") (number (unsigned o.segment_size)) (
    put (codes "number") (number (unsigned o.segment_number)) (
    put (codes "key_bytes") (number (unsigned o.key_size)) no_members))

abbrev pub with_opal : Opal → Members → Members
with_opal o ms = put (codes "opal") (object (opal_members o)) ms

abbrev pub with_encryption : Encryption → Members → Members
with_encryption e ms =
    put (codes "sector_size") (number (unsigned e.sector_size)) (
    put (codes "iv_tweak") (number (unsigned e.iv_tweak)) (
    put (codes "cipher") (string e.cipher.now) ms))

-- the type, and what that type has
abbrev pub with_wide_kind : WideKind → Members → Members
with_wide_kind (wide.Crypt e) ms = with_kind (narrow.Crypt e) ms
with_wide_kind wide.Linear ms = with_kind narrow.Linear ms
with_wide_kind (wide.HwOpal o) ms = put (codes "type") (string (codes "hw-opal")) (with_opal o ms)
with_wide_kind (wide.HwOpalCrypt o e) ms = put (codes "type") (string (codes "hw-opal-crypt")) (with_encryption e (with_opal o ms))

-- the flags of the segment `d` as they stand, or an empty array
abbrev pub flags_value : Data → Data
flags_value d = unwrap_or (flags_at d) (array no_items)

abbrev pub wide_segment_members : ℕ → WideSegment → Data → Option Data → Members
wide_segment_members n s flags integrity =
    with_integrity integrity (
    put (codes "flags") flags (
    with_wide_kind s.kind (
    put (codes "size") (extent_value s.size) (
    put (codes "offset") (number (unsigned s.offset)) (
    put (codes "number") (number (unsigned n)) no_members)))))

-- it is the object of the segment with that number
pub record IsWideSegmentValue (j : Data) (n : ℕ) (d : Data) : Type 0 where
  pub segment : WideSegment
  pub told : IsObject TellsWideSegment j section.Segments n segment
  pub is : d ≡ object (wide_segment_members n segment (flags_value told.object) (integrity_at j n))

-- the objects of those segments that there are of the first n numbers, the lowest number first
pub data AreWideSegments (j : Data) : ℕ → List Data → Type 0 where
  start : AreWideSegments j 0 []
  passed : {n : ℕ} {ds : List Data} → AreWideSegments j n ds → IsMissing j section.Segments n → AreWideSegments j (n + 1) ds
  listed : {n : ℕ} {ds : List Data} {d : Data} → AreWideSegments j n ds → IsWideSegmentValue j n d → AreWideSegments j (n + 1) (ds ++ d ∷ [])

-- it is the array of all segments
pub record IsWideSegmentsValue (j : Data) (d : Data) : Type 0 where
  pub segments : List Data
  pub all : AreWideSegments j 32 segments
  pub is : d ≡ array (items_of segments)
