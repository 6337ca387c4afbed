-- The place of the keyslots of an accepted LUKS1 header.
use Rattle.std.proofs.Common.{◌≡◌, ℕ, ◌+◌, ◌*◌, ◌<◌, ◌≤◌, List, slice_index_or, subst, sym, ap, ◌∙◌, arith}
use Rattle.luks_area.specs.declared.area.Area.{Area}
use Rattle.luks_area.specs.declared.area.AreaName.TheVariants.{Slot}
use Rattle.luks_area.specs.Ranges.{IsAt}
use Rattle.luks_area.specs.Sectors.{rounded_to_sectors}
use Rattle.luks1_header.specs.Bytes.{number_at}
use Rattle.luks1_header.specs.Header1.{entry, HoldsEntry, IsLuks1}
use Rattle.luks1_header.specs.declared.luks1.Luks1.{Luks1}
use Rattle.luks1_header.specs.declared.luks1.Luks1Slot.{Luks1Slot}
use Rattle.luks_reading.specs.declared.report.Data.{Data}
use Rattle.luks_reading.specs.Checked.{IsLuks1Volume}
use Rattle.luks1_edits.specs.Accepted.{IsHeaderOf}
use Rattle.luks1_edits.specs.Edited.{IsRemoved}
use Rattle.luks1_edits.specs.Leftovers.{IsHalfRemoved}
use Rattle.luks1_edits.specs.Places.{area_len, area_start}
use Rattle.luks1_edits.specs.Steps.{IsKeyslotAt}
use Rattle.luks1_edits.proofs.HeaderFacts.{key_is, volume_of}
use Rattle.luks1_edits.proofs.KeptFacts.{header_apart}
use Rattle.luks1_edits.proofs.OpenerFacts.{slots_in}

-- an area as the fields say it lies inside
pub keyslot_inside : (h : List ℕ) (d : Luks1) (payload : Data) (total n : ℕ) (s : Luks1Slot) (a : Area) → IsLuks1 h d → IsLuks1Volume h payload total → n < 8
    → a.start ≡ (slice_index_or d.slots n s).key_material_offset * 512
    → a.len ≡ rounded_to_sectors (d.common.key_bytes * (slice_index_or d.slots n s).stripes) → a.start + a.len ≤ total
keyslot_inside h d payload total n s a is whole lt start len =
    let fields = (is.slots.each n s lt).fields in
    whole.fit.inside (Slot n) a (
      lt,
      start ∙ ap (λ k. k * 512) (sym fields.key_material_offset),
      len ∙ ap (λ k. rounded_to_sectors (k * (slice_index_or d.slots n s).stripes)) (sym is.common.fields.key_bytes)
          ∙ ap (λ k. rounded_to_sectors (number_at h 108 4 * k)) (sym fields.stripes),
    )

-- the key's length in the volume
pub key_bytes_in : (h : List ℕ) (d : Luks1) (payload : Data) (v : List ℕ) → IsHeaderOf h payload v → IsLuks1 h d → number_at v 108 4 ≡ d.common.key_bytes
key_bytes_in h d payload v x is = sym (ap (λ b. number_at b 108 4) x.begins ∙ key_is v) ∙ is.common.fields.key_bytes

-- the area of a keyslot as the fields say it is the volume's, apart from the entry
pub keyslot_at : (h : List ℕ) (d : Luks1) (payload : Data) (v : List ℕ) (n : ℕ) (s : Luks1Slot) (a : Area)
    → IsHeaderOf h payload v → IsLuks1 h d → n < 8
    → a.start ≡ (slice_index_or d.slots n s).key_material_offset * 512
    → a.len ≡ rounded_to_sectors (d.common.key_bytes * (slice_index_or d.slots n s).stripes)
    → IsKeyslotAt v n (slice_index_or d.slots n s) a
keyslot_at h d payload v n s a x is lt start len =
    let says : HoldsEntry (entry v n) (slice_index_or d.slots n s) = ((slots_in h payload v d.slots x is.slots).each n s lt).fields in
    let start_at : a.start ≡ area_start v n = start ∙ ap (λ k. k * 512) (sym says.key_material_offset) in
    let len_at : a.len ≡ area_len v n =
    len ∙ ap (λ k. rounded_to_sectors (k * (slice_index_or d.slots n s).stripes)) (sym (key_bytes_in h d payload v x is))
    ∙ ap (λ k. rounded_to_sectors (number_at v 108 4 * k)) (sym says.stripes) in
    record {
      says = says;
      start = start_at;
      len = len_at;
      apart = λ p at in_area.
          let high = at.1 in
          header_apart v payload (volume_of v payload x.chosen x.well).fit n p lt (omega (arith, high, lt))
          (subst (λ k. IsAt (area_start v n) k p) len_at (subst (λ k. IsAt k a.len p) start_at in_area));
    }

-- the same in an equal volume
pub keyslot_at_same : {u v : List ℕ} {n : ℕ} {s : Luks1Slot} {a : Area} → u ≡ v → IsKeyslotAt v n s a → IsKeyslotAt u n s a
keyslot_at_same {u} {v} {n} {s} {a} same x = subst (λ k. IsKeyslotAt k n s a) (sym same) x

pub removed_same : {u v w : List ℕ} {n : ℕ} → u ≡ v → IsRemoved u n w → IsRemoved v n w
removed_same {u} {v} {w} {n} same x = subst (λ k. IsRemoved k n w) same x

pub half_removed_same : {u v w : List ℕ} {n : ℕ} → u ≡ v → IsHalfRemoved u n w → IsHalfRemoved v n w
half_removed_same {u} {v} {w} {n} same x = subst (λ k. IsHalfRemoved k n w) same x
