-- A keyslot of a LUKS1 header has a plan.
use Rattle.std.proofs.Common.{ℕ, ◌*◌, ◌<◌, List, refl}
use Rattle.luks_area.specs.Ranges.{part}
use Rattle.luks_area.specs.Sectors.{rounded_to_sectors}
use Rattle.luks1_header.specs.Bytes.{number_at, text_at}
use Rattle.luks1_header.specs.Header1.{entry, entry_iterations, entry_stripes}
use Rattle.luks_slot.specs.declared.plan.AreaCipher.TheVariants.{Apart}
use Rattle.luks_slot.specs.declared.plan.Derivation.TheVariants.{Pbkdf2}
use Rattle.luks_slot.specs.declared.plan.SlotPlan.{SlotPlan}
use Rattle.luks_reading.specs.Plans.{HasLuks1Plan}

luks1_plan : (h e : List ℕ) → SlotPlan
luks1_plan h e = record {
  derivation = Pbkdf2 (record { ref_ptr = (0, 0); now = text_at h 72 32 }) (entry_iterations e) (record { ref_ptr = (0, 0); now = part e 8 32 });
  cipher = Apart (record { ref_ptr = (0, 0); now = text_at h 8 32 }) (record { ref_ptr = (0, 0); now = text_at h 40 32 });
  area = record { start = number_at e 40 4 * 512; len = rounded_to_sectors (number_at h 108 4 * entry_stripes e) };
  area_key_bytes = number_at h 108 4;
  key_bytes = number_at h 108 4;
  stripes = entry_stripes e;
  splitter_hash = record { ref_ptr = (0, 0); now = text_at h 72 32 };
  digest = record {
    hash = record { ref_ptr = (0, 0); now = text_at h 72 32 };
    iterations = number_at h 164 4;
    salt = record { ref_ptr = (0, 0); now = part h 132 32 };
    stored = record { ref_ptr = (0, 0); now = part h 112 20 };
  };
}

pub has_luks1_plan : (h : List ℕ) (n : ℕ) → n < 8 → (plan : SlotPlan) × HasLuks1Plan h n plan
unfolding luks1_plan
has_luks1_plan h n low = (
  luks1_plan h (entry h n),
  record {
    numbered = low;
    is = record {
      derivation = (refl, refl, refl);
      cipher = (refl, refl);
      start = refl;
      len = refl;
      area_key_bytes = refl;
      key_bytes = refl;
      stripes = refl;
      splitter_hash = refl;
      digest = record { hash = refl; iterations = refl; salt = refl; stored = refl };
    };
  },
)
