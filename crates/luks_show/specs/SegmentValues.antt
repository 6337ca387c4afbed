-- The segments of a LUKS2 header in the JSON object.
use Rattle.std.specs.Prelude.{◌≡◌, ℕ, ◌+◌, List, [], ◌∷◌, ◌++◌, codes, Option, Some, None, option_and_then}
use Rattle.serde_json.specs.Data.{Data, Members, array, no_members, number, object, put, string, unsigned}
use Rattle.serde_json.specs.Find.{get}
use Rattle.serde_json.specs.View.{items_of}
use Rattle.luks_rules.specs.declared.table.Section.TheVariants as section
use Rattle.luks_rules.specs.Faults.{object_at}
use Rattle.luks_meta.specs.declared.member.Extent.{Extent}
use Rattle.luks_meta.specs.declared.member.Extent.TheVariants.{Fixed, Dynamic}
use Rattle.luks_meta.specs.declared.segments.Segment.{Segment}
use Rattle.luks_meta.specs.declared.segments.SegmentKind.{SegmentKind}
use Rattle.luks_meta.specs.declared.segments.SegmentKind.TheVariants.{Crypt, Linear}
use Rattle.luks_meta.specs.Objects.{IsMissing, IsObject}
use Rattle.luks_meta.specs.Says.{TellsSegment}

-- the member `integrity` of the segment with that number (LUKS2 On-Disk Format 1.1, 3.3), if it is there
abbrev pub integrity_at : Data → ℕ → Option Data
integrity_at j n = option_and_then (get (codes "integrity")) (object_at j section.Segments n)

abbrev pub with_integrity : Option Data → Members → Members
with_integrity None ms = ms
with_integrity (Some d) ms = put (codes "integrity") d ms

-- in bytes, or to the volume's end
abbrev pub extent_value : Extent → Data
extent_value (Fixed n) = number (unsigned n)
extent_value Dynamic = string (codes "dynamic")

-- the type, and of a segment that is encrypted how
abbrev pub with_kind : SegmentKind → Members → Members
with_kind Linear ms = put (codes "type") (string (codes "linear")) ms
with_kind (Crypt e) ms =
    put (codes "type") (string (codes "crypt")) (
    put (codes "sector_size") (number (unsigned e.sector_size)) (
    put (codes "iv_tweak") (number (unsigned e.iv_tweak)) (
    put (codes "cipher") (string e.cipher.now) ms)))

abbrev pub segment_members : ℕ → Segment → Option Data → Members
segment_members n s integrity =
    with_integrity integrity (
    with_kind s.kind (
    put (codes "size") (extent_value s.size) (
    put (codes "offset") (number (unsigned s.offset)) (
    put (codes "number") (number (unsigned n)) no_members))))

-- it is the object of the segment with that number
pub record IsSegmentValue (j : Data) (n : ℕ) (d : Data) : Type 0 where
  pub segment : Segment
  pub told : IsObject TellsSegment j section.Segments n segment
  pub is : d ≡ object (segment_members n segment (integrity_at j n))

-- the objects of those segments that there are of the first n numbers, the lowest number first
pub data AreSegments (j : Data) : ℕ → List Data → Type 0 where
  start : AreSegments j 0 []
  passed : {n : ℕ} {ds : List Data} → AreSegments j n ds → IsMissing j section.Segments n → AreSegments j (n + 1) ds
  listed : {n : ℕ} {ds : List Data} {d : Data} → AreSegments j n ds → IsSegmentValue j n d → AreSegments j (n + 1) (ds ++ d ∷ [])

-- it is the array of all segments
pub record IsSegmentsValue (j : Data) (d : Data) : Type 0 where
  pub segments : List Data
  pub all : AreSegments j 32 segments
  pub is : d ≡ array (items_of segments)
