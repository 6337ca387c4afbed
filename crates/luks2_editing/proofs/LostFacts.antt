-- The area that a keyslot of a LUKS2 volume loses: the copies and a key beside it.
use Rattle.std.proofs.Common.{◌≡◌, ℕ, ◌+◌, ◌-◌, ◌≤◌, List, refl, sym, ap, ◌∙◌, subst, arith}
use Rattle.serde_json.specs.Data.{Data as Value}
use Rattle.luks_area.specs.declared.area.Area.{Area}
use Rattle.luks_area.specs.declared.area.AreaName.TheVariants.{Head1, Head2, Slot}
use Rattle.luks_area.specs.Ranges.{part, IsAt, SameBut}
use Rattle.luks_area.proofs.RangeFacts.{part-same_but}
use Rattle.luks1_header.specs.Written.{AreZeros}
use Rattle.luks2_header.specs.Header2.{header_at, hdr_size, seqid}
use Rattle.luks2_header.proofs.SoundnessFacts.{sound_by_range}
use Rattle.luks2_header.specs.Selection.{luks2}
use Rattle.luks_making.specs.WrittenArea.{IsWrittenArea}
use Rattle.luks_meta.specs.Content.{content}
use Rattle.luks_reading.specs.declared.header.ChosenCopy.{ChosenCopy}
use Rattle.luks_reading.specs.declared.report.Data.{Data}
use Rattle.luks_reading.specs.Checked.{AreaOf, WellFormed}
use Rattle.luks_reading.specs.Header.{json_at, IsChosenCopy}
use Rattle.luks_reading.proofs.VolumeLaws.{well_formed_fits}
use Rattle.luks_edit.specs.declared.edit.Edit.{Edit}
use Rattle.luks2_edit_laws.specs.Copies.{label_field, salt_field, subsystem_field, IsWrittenAnew}
use Rattle.luks2_edit_laws.specs.Metadata.{IsKeyArea}
use Rattle.luks2_editing.specs.Rewriting.{AreWrittenAnew}

-- ---- a copy beside places that were written

module _ (v : List ℕ) (o : ℕ) (e : Edit) (random : List ℕ) (j : Value) (w x : List ℕ) (touched : ℕ → Type 0) (least : 4096 ≤ hdr_size (header_at v o))
    (same : SameBut touched w x) where
  module _ (q : ℕ) (apart : (p : ℕ) → IsAt q (hdr_size (header_at v o)) p → touched p → ⊥) (a : IsWrittenAnew v o e random j w q) where
    head_same : header_at x q ≡ header_at w q
    head_same = part-same_but q 4096 same (λ p here there. apart p (here.0, let high = here.1 in omega (arith, high, least)) there)

    json_same : json_at x q ≡ json_at w q
    json_same =
        let size : hdr_size (header_at w q) ≡ hdr_size (header_at v o) = a.renewed.size in
        ap (λ b. part x (q + 4096) (hdr_size b - 4096)) head_same
        ∙ part-same_but (q + 4096) (hdr_size (header_at w q) - 4096) same (λ p here there.
        apart p (let low = here.0 in omega (arith, low), let high = here.1 in omega (arith, high, size, least)) there)

    anew_beside : IsWrittenAnew v o e random j x q
    anew_beside = record {
      renewed = record {
        sound = sound_by_range w x q (hdr_size (header_at v o)) (sym same.length_same) least (let size = a.renewed.size in omega (arith, size))
            (sym (part-same_but q (hdr_size (header_at v o)) same apart)) a.renewed.sound;
        size = ap hdr_size head_same ∙ a.renewed.size;
        number = ap seqid head_same ∙ a.renewed.number;
        label = ap label_field head_same ∙ a.renewed.label;
        csum_alg = ap (λ b. part b 72 32) head_same ∙ a.renewed.csum_alg;
        salt = ap salt_field head_same ∙ a.renewed.salt;
        uuid = ap (λ b. part b 168 40) head_same ∙ a.renewed.uuid;
        subsystem = ap subsystem_field head_same ∙ a.renewed.subsystem;
        padding = subst (λ b. AreZeros b 264 448) (sym head_same) a.renewed.padding;
        tail = subst (λ b. AreZeros b 512 4096) (sym head_same) a.renewed.tail;
        json = subst (λ l. IsWrittenArea (hdr_size (header_at v o) - 4096) j l) (sym json_same) a.renewed.json;
      };
      csum_rest = subst (λ b. AreZeros b 480 512) (sym head_same) a.csum_rest;
    }

  -- both copies are beside the places
  pub both_beside : ((p : ℕ) → IsAt 0 (hdr_size (header_at v o)) p → touched p → ⊥)
      → ((p : ℕ) → IsAt (hdr_size (header_at v o)) (hdr_size (header_at v o)) p → touched p → ⊥)
      → AreWrittenAnew v o e random j w → AreWrittenAnew v o e random j x
  both_beside first second a = record {
    first = anew_beside 0 first a.first;
    second = anew_beside (hdr_size (header_at v o)) second a.second;
  }

-- ---- the keyslot's area

module _ (v : List ℕ) (payload : Data) (copy : ChosenCopy) (x : IsChosenCopy v copy) (well : WellFormed v payload) (slot : ℕ) where
  pub area_named : (a : Area) → IsKeyArea (content copy.meta) slot a → AreaOf v payload (Slot slot) a
  area_named a is = record { choice = luks2 copy.header.hdr_offset copy.copies; chosen = x.chosen; area = record { value = content copy.meta; holds = x.metadata.json; area = is } }

  module _ (area : Area) (is : IsKeyArea (content copy.meta) slot area) where
    pub beside_first : (p : ℕ) → IsAt 0 (hdr_size (header_at v copy.header.hdr_offset)) p → IsAt area.start area.len p → ⊥
    beside_first p here there =
        (well_formed_fits v payload well).fit.disjoint Head1 (Slot slot) (record { start = 0; len = hdr_size (header_at v copy.header.hdr_offset) }) area
        (record { choice = luks2 copy.header.hdr_offset copy.copies; chosen = x.chosen; area = record { value = content copy.meta; holds = x.metadata.json; area = (refl, refl) } })
        (area_named area is) (λ t. cc) p here there

    pub beside_second : (p : ℕ) → IsAt (hdr_size (header_at v copy.header.hdr_offset)) (hdr_size (header_at v copy.header.hdr_offset)) p → IsAt area.start area.len p → ⊥
    beside_second p here there =
        (well_formed_fits v payload well).fit.disjoint Head2 (Slot slot)
        (record { start = hdr_size (header_at v copy.header.hdr_offset); len = hdr_size (header_at v copy.header.hdr_offset) }) area
        (record { choice = luks2 copy.header.hdr_offset copy.copies; chosen = x.chosen; area = record { value = content copy.meta; holds = x.metadata.json; area = (refl, refl) } })
        (area_named area is) (λ t. cc) p here there
