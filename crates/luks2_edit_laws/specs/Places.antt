-- Where a new keyslot's area goes, and which bytes of a LUKS2 volume an edit may change. In a volume
-- of `total` bytes both copies have `h` bytes each, and the metadata that counts is `j`.
use Rattle.std.specs.Prelude.{◌≡◌, ℕ, ◌+◌, ◌*◌, ◌/◌, ◌<◌, ◌≤◌, ◌⊎◌, List, length, Some, IsSomeAnd, min}
use Rattle.serde_json.specs.Data.{Data as Value}
use Rattle.luks_area.specs.declared.area.Area.{Area}
use Rattle.luks_area.specs.Ranges.{IsAt}
use Rattle.luks_area.specs.Sectors.{rounded_to_sectors}
use Rattle.luks2_header.specs.Header2.{hdr_size, header_at}
use Rattle.luks_rules.specs.Sizes.{keyslots_size}
use Rattle.luks_reading.specs.declared.report.Data.{Data}
use Rattle.luks_reading.specs.Layout2.{Luks2Area}
use Rattle.luks_edit.specs.declared.edit.Edit.{Edit}
use Rattle.luks_edit.specs.Asked.{Loses, opener_at, sealed_by}
use Rattle.luks2_edit_laws.specs.declared.like.Like.{Like}
use Rattle.luks2_edit_laws.specs.Gap.{HasNoGap, IsLeastGap}
use Rattle.luks2_edit_laws.specs.Likes.{ForLike, HasStripesLike}
use Rattle.luks2_edit_laws.specs.Metadata.{HasMetadata, IsKeyArea}

-- the bytes of the whole blocks of 4096 bytes that hold so many bytes
abbrev pub rounded_to_blocks : ℕ → ℕ
rounded_to_blocks bytes = (bytes + 4095) / 4096 * 4096

-- where the region of the key areas ends, or the volume before it
abbrev pub key_areas_end : ℕ → ℕ → ℕ → ℕ
key_areas_end h total region = min (2 * h + region) total

-- the area of a keyslot that is made like this one, with its key's length and its stripes: whole
-- blocks for all stripes, in the least gap of the region, inside the volume and beside every area
pub record IsNewArea (h total : ℕ) (payload : Data) (j : Value) (like : Like) (area : Area) : Type 0 where
  pub key_bytes : ℕ
  pub stripes : ℕ
  pub slot : HasStripesLike j like key_bytes stripes
  pub region : ℕ
  pub region_is : keyslots_size j ≡ Some region
  pub len : area.len ≡ rounded_to_blocks (key_bytes * stripes)
  pub gap : IsLeastGap (Luks2Area j h payload total) (2 * h) (key_areas_end h total region) area.len area.start

-- there is no such area
pub record HasNoNewArea (h total : ℕ) (payload : Data) (j : Value) (like : Like) : Type 0 where
  pub key_bytes : ℕ
  pub stripes : ℕ
  pub slot : HasStripesLike j like key_bytes stripes
  pub region : ℕ
  pub region_is : keyslots_size j ≡ Some region
  pub none : HasNoGap (Luks2Area j h payload total) (2 * h) (key_areas_end h total region)
      (rounded_to_blocks (key_bytes * stripes))

-- ---- places

-- the place is of one of the copies
abbrev pub IsOfCopies : ℕ → ℕ → Type 0
IsOfCopies h p = p < 2 * h

-- it is of the area of the keyslot `n`
pub record IsOfKeyslot (j : Value) (n p : ℕ) : Type 0 where
  pub area : Area
  pub is : IsKeyArea j n area
  pub at : IsAt area.start area.len p

-- it is of the sectors that hold the stripes of a keyslot that is made like this one
pub record IsOfNewKeyslot (h total : ℕ) (payload : Data) (j : Value) (p : ℕ) (like : Like) : Type 0 where
  pub area : Area
  pub is : IsNewArea h total payload j like area
  pub at : IsAt area.start (rounded_to_sectors (is.key_bytes * is.stripes)) p

-- it is of the sectors of the keyslot that the edit makes or seals again
abbrev pub IsOfSealed : ℕ → ℕ → Data → Value → Edit → ℕ → Type 0
IsOfSealed h total payload j e p = IsSomeAnd (sealed_by e) (λ s. ForLike j (opener_at s.place) (IsOfNewKeyslot h total payload j p))

-- it is of the area that a keyslot loses by the edit
pub record IsOfLost (j : Value) (e : Edit) (p : ℕ) : Type 0 where
  pub slot : ℕ
  pub loses : Loses e slot
  pub is : IsOfKeyslot j slot p

-- the edit may change the byte at the place
abbrev pub IsTouched : ℕ → ℕ → Data → Value → Edit → ℕ → Type 0
IsTouched h total payload j e p = IsOfCopies h p ⊎ IsOfSealed h total payload j e p ⊎ IsOfLost j e p

-- it is of one that is lost of a number up to `last`
pub record IsOfLostUpTo (last : ℕ) (j : Value) (e : Edit) (p : ℕ) : Type 0 where
  pub lost : IsOfLost j e p
  pub low : lost.slot ≤ last

-- the edit may change the byte at the place, before the areas of higher numbers than `last` that are lost
abbrev pub IsTouchedUpTo : ℕ → ℕ → ℕ → Data → Value → Edit → ℕ → Type 0
IsTouchedUpTo last h total payload j e p = IsOfCopies h p ⊎ IsOfSealed h total payload j e p ⊎ IsOfLostUpTo last j e p

-- the edit may change the byte at the place of the LUKS2 volume `v`: by the metadata that counts it is
-- of one of the copies, of the sectors of a keyslot that the edit makes or seals again, or of the area
-- that a keyslot loses
pub record IsTouchedIn (v : List ℕ) (payload : Data) (e : Edit) (p : ℕ) : Type 0 where
  pub place : ℕ
  pub value : Value
  pub metadata : HasMetadata v place value
  pub is : IsTouched (hdr_size (header_at v place)) (length v) payload value e p
