-- A new keyslot of a well formed LUKS2 volume has its area, or there is none.
use Rattle.std.proofs.Common.{◌≡◌, ◌⊎◌, ℕ, ◌*◌, List, length, Some, refl, subst, inl, inr}
use Rattle.serde_json.specs.Data.{Data as Value}
use Rattle.luks_area.specs.declared.area.Area.{Area}
use Rattle.luks2_header.specs.Header2.{hdr_size, header_at}
use Rattle.luks2_header.specs.Selection.{luks2}
use Rattle.luks2_header.proofs.ChoiceFacts.{choices_agree}
use Rattle.luks_rules.specs.Accepted.{IsMeta}
use Rattle.luks_rules.specs.Sizes.{keyslots_size}
use Rattle.luks_rules.proofs.AreaFaults.{one_value}
use Rattle.luks_reading.specs.declared.report.Data.{Data}
use Rattle.luks_reading.specs.Checked.{IsLuks2Volume, WellFormed, WellFormedAs}
use Rattle.luks_reading.specs.Header.{json_at}
use Rattle.luks_reading.specs.Layout2.{Luks2Area}
use Rattle.luks_reading.proofs.Luks2AreaFacts.{luks2_area-unique}
use Rattle.luks2_edit_laws.specs.Gap.{area_at}
use Rattle.luks2_edit_laws.specs.declared.like.Like.{Like}
use Rattle.luks2_edit_laws.specs.declared.like.Like.TheVariants.{Keyslot, Digest}
use Rattle.luks2_edit_laws.specs.Likes.{HasStripesLike}
use Rattle.luks2_edit_laws.specs.Metadata.{HasMetadata}
use Rattle.luks2_edit_laws.specs.Places.{HasNoNewArea, IsNewArea, key_areas_end, rounded_to_blocks}
use Rattle.luks2_judging.specs.Keys.{IsThereLike}
use Rattle.luks_laws.proofs.GapAreas.{beside_decided}
use Rattle.luks_laws.proofs.GapNumbers.{some_region, some_stripes}
use Rattle.luks_laws.proofs.GapPlaces.{least_gap_or_none}

module _ (v : List ℕ) (payload : Data) (place : ℕ) (j : Value) (metadata : HasMetadata v place j) where
  -- the metadata that counts of a well formed volume is accepted
  accepted : WellFormed v payload → IsMeta (json_at v place) j
  accepted formed =
      let volume : IsLuks2Volume (header_at v place) (json_at v place) payload (length v) =
      subst (WellFormedAs v payload) (choices_agree v formed.choice (luks2 place metadata.copies) formed.chosen metadata.chosen) formed.formed in
      let held = volume.layout.1.metadata in
      subst (IsMeta (json_at v place)) (one_value (json_at v place) volume.layout.0 j held.json metadata.holds) held

  -- there is the area of a keyslot that is made like this one, or there is none
  abbrev AreaOrNoRoom : Like → Type 0
  AreaOrNoRoom l =
      ((a : Area) × IsNewArea (hdr_size (header_at v place)) (length v) payload j l a)
      ⊎ HasNoNewArea (hdr_size (header_at v place)) (length v) payload j l

  -- for these stripes, in a region of so many bytes
  placed : (l : Like) (key_bytes stripes : ℕ) → HasStripesLike j l key_bytes stripes → ((x : ℕ) × (keyslots_size j ≡ Some x)) → AreaOrNoRoom l
  placed l key_bytes stripes slot region =
      let h = hdr_size (header_at v place) in
      let bytes = rounded_to_blocks (key_bytes * stripes) in
      elim (least_gap_or_none (Luks2Area j h payload (length v)) (2 * h) (key_areas_end h (length v) region.0) bytes
      (beside_decided j h payload (length v) (luks2_area-unique j h payload (length v)))) [
        | inl found ↦ inl (
          area_at found.0 bytes,
          record { key_bytes = key_bytes; stripes = stripes; slot = slot; region = region.0; region_is = region.1; len = refl; gap = found.1 },
        )
        | inr none ↦ inr (record { key_bytes = key_bytes; stripes = stripes; slot = slot; region = region.0; region_is = region.1; none = none })
      ]

  -- for a keyslot that is there, or that of a new volume
  pub area_or_no_room : WellFormed v payload → (l : Like) → IsThereLike j l → AreaOrNoRoom l
  area_or_no_room formed (Keyslot n) used =
      let content = (accepted formed).content in
      let s = some_stripes (length (json_at v place)) j content n used in
      placed (Keyslot n) s.key_bytes s.stripes s.slot (some_region (length (json_at v place)) j content)
  area_or_no_room formed (Digest number len) there = placed (Digest number len) len 4000 (refl, refl) (some_region (length (json_at v place)) j (accepted formed).content)
