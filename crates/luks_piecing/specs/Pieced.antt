-- Metadata of LUKS2 that is put together of three objects, by which the passphrase `p` opens a keyslot: a keyslot and a digest that
-- are fragments of the volume `v`, and a segment that is one too, or is given.
use Rattle.std.specs.Prelude.{◌≡◌, ℕ, ◌<◌, List, Option, Some, None}
use Rattle.serde_json.specs.Data.{Data}
use Rattle.luks_area.specs.Ranges.{part}
use Rattle.luks_rules.specs.Accepted.{IsMeta}
use Rattle.luks_making.specs.WrittenArea.{IsWrittenArea}
use Rattle.luks_slot.specs.declared.allowed.Allowed.{Allowed}
use Rattle.luks_fragments.specs.Fragments.{IsFragmentAt}
use Rattle.luks_fragments.specs.Kinds.{NeedsRegion}
use Rattle.luks_fragments.specs.Made.{area_length, area_of, made_text}
use Rattle.luks_fragments.specs.declared.kinds.Kind.{Kind}
use Rattle.luks_fragments.specs.declared.kinds.Kind.TheVariants as kind
use Rattle.luks_trials.specs.Metadata.{OpensAt}
use Rattle.luks_piecing.specs.Given.{IsGivenText}
use Rattle.luks_piecing.specs.declared.given.GivenSegment.{GivenSegment}
use Rattle.luks_piecing.specs.declared.joining.Pieced.{Pieced}

-- the bytes are at the place, and are a fragment of the kind
pub record IsTextAt (v : List ℕ) (at : ℕ) (kind : Kind) (text : List ℕ) : Type 0 where
  pub len : ℕ
  pub is : text ≡ part v at len
  pub fragment : IsFragmentAt v at len kind

-- the segment that is given, if one is, and else the fragment at the place
abbrev pub IsSegment : List ℕ → Option GivenSegment → Option ℕ → List ℕ → Type 0
IsSegment v (Some given) None text = IsGivenText given text
IsSegment v (Some given) (Some at) text = ⊥
IsSegment v None (Some at) text = IsTextAt v at kind.Segment text
IsSegment v None None text = ⊥

-- the area has the text of the value that the metadata of the three objects holds, which is accepted
pub record IsWrittenOf (region n m : ℕ) (keyslot digest segment json : List ℕ) : Type 0 where
  pub value : Data
  pub accepted : IsMeta (area_of (made_text region n m keyslot digest segment)) value
  pub written : IsWrittenArea area_length value json

-- the objects are at these places, or the segment is given; and the region of key areas is as small as the keyslot needs
pub record IsMadeOf (v : List ℕ) (given : Option GivenSegment) (n keyslot_at digest_at : ℕ) (segment_at : Option ℕ) (json : List ℕ) : Type 0 where
  pub numbered : n < 32
  pub keyslot : List ℕ
  pub is_keyslot : IsTextAt v keyslot_at kind.Keyslot keyslot
  pub digest : List ℕ
  pub is_digest : IsTextAt v digest_at kind.Digest digest
  pub segment : List ℕ
  pub is_segment : IsSegment v given segment_at segment
  pub region : ℕ
  pub needs : NeedsRegion keyslot region
  pub number : ℕ
  pub made : IsWrittenOf region n number keyslot digest segment json

pub record IsPieced (allowed : Allowed) (given : Option GivenSegment) (v p : List ℕ) (f : Pieced) : Type 0 where
  pub made : IsMadeOf v given f.slot f.keyslot f.digest f.segment f.json.items
  pub opens : OpensAt allowed v p f.json.items f.slot
