-- The plan that a header gives of a keyslot is the one that is kept, where the header says of it what is taken.
use Rattle.std.proofs.Common.{◌≡◌, ℕ, ◌*◌, ◌<◌, List, sym, ap, ◌∙◌}
use Rattle.luks_area.specs.Sectors.{rounded_to_sectors}
use Rattle.luks_area.specs.declared.area.Area.{Area}
use Rattle.luks1_header.specs.Header1.{entry, entry_iterations, entry_key_material_offset, entry_salt, entry_stripes, header_text, key_bytes_of, mk_digest_iterations_of, mk_digest_of, mk_digest_salt_of}
use Rattle.luks1_header.specs.declared.fault.TextField.{TextField}
use Rattle.luks1_header.specs.declared.fault.TextField.TheVariants as field
use Rattle.luks1_mending.specs.Areas.{own_area, sector_of, stripes_of}
use Rattle.luks1_mending.specs.Taken.{taken_text}
use Rattle.luks1_mending.specs.declared.given.Given.{Given}
use Rattle.luks_slot.specs.declared.plan.AreaCipher.{AreaCipher}
use Rattle.luks_slot.specs.declared.plan.AreaCipher.TheVariants.{Apart, Whole}
use Rattle.luks_slot.specs.declared.plan.Derivation.{Derivation}
use Rattle.luks_slot.specs.declared.plan.Derivation.TheVariants.{Argon2, Pbkdf2}
use Rattle.luks_slot.specs.declared.plan.SlotPlan.{SlotPlan}
use Rattle.luks_reading.proofs.AreaListFacts.{same_area}
use Rattle.luks_reading.specs.Plans.{HasLuks1Plan, IsLuks1Cipher, IsLuks1Derivation}
use Rattle.luks1_rebuilding.specs.Gives.{IsKeptCipher, IsKeptDerivation, IsKeptPlan}
use Rattle.luks1_rebuilding.specs.KeyAreas.{header_of, key_of}

-- the header `b` says what is taken, and its keyslot `n` what that of the volume `v` says
pub record SaysKept (v : List ℕ) (g : Given) (n : ℕ) (b : List ℕ) : Type 0 where
  pub numbered : n < 8
  pub texts : (t : TextField) → header_text b t ≡ taken_text (header_of v) g t
  pub key_bytes : key_bytes_of b ≡ key_of v g
  pub digest : mk_digest_of b ≡ mk_digest_of (header_of v)
  pub digest_salt : mk_digest_salt_of b ≡ mk_digest_salt_of (header_of v)
  pub digest_iterations : mk_digest_iterations_of b ≡ mk_digest_iterations_of (header_of v)
  pub iterations : entry_iterations (entry b n) ≡ entry_iterations (entry (header_of v) n)
  pub salt : entry_salt (entry b n) ≡ entry_salt (entry (header_of v) n)
  pub sector : entry_key_material_offset (entry b n) ≡ sector_of (header_of v) n
  pub stripes : entry_stripes (entry b n) ≡ stripes_of (header_of v) n

module _ {v : List ℕ} {g : Given} {n : ℕ} {b : List ℕ} (x : SaysKept v g n b) where
  start_is : entry_key_material_offset (entry b n) * 512 ≡ (own_area (header_of v) (key_of v g) n).start
  start_is = ap (λ s. s * 512) x.sector

  len_is : rounded_to_sectors (key_bytes_of b * entry_stripes (entry b n)) ≡ (own_area (header_of v) (key_of v g) n).len
  len_is =
      ap (λ k. rounded_to_sectors (k * entry_stripes (entry b n))) x.key_bytes
      ∙ ap (λ s. rounded_to_sectors (key_of v g * s)) x.stripes

  derivation_here : (p : Derivation) → IsLuks1Derivation b (entry b n) p → IsKeptDerivation v g n p
  derivation_here (Pbkdf2 hash iterations salt) is = (is.0 ∙ x.texts field.HashSpec, is.1 ∙ x.iterations, is.2 ∙ x.salt)
  derivation_here (Argon2 costs) is = is

  derivation_there : (p : Derivation) → IsKeptDerivation v g n p → IsLuks1Derivation b (entry b n) p
  derivation_there (Pbkdf2 hash iterations salt) is = (is.0 ∙ sym (x.texts field.HashSpec), is.1 ∙ sym x.iterations, is.2 ∙ sym x.salt)
  derivation_there (Argon2 costs) is = is

  cipher_here : (p : AreaCipher) → IsLuks1Cipher b p → IsKeptCipher v g p
  cipher_here (Apart one mode) is = (is.0 ∙ x.texts field.CipherName, is.1 ∙ x.texts field.CipherMode)
  cipher_here (Whole text) is = is

  cipher_there : (p : AreaCipher) → IsKeptCipher v g p → IsLuks1Cipher b p
  cipher_there (Apart one mode) is = (is.0 ∙ sym (x.texts field.CipherName), is.1 ∙ sym (x.texts field.CipherMode))
  cipher_there (Whole text) is = is

  pub plan_here : (plan : SlotPlan) → HasLuks1Plan b n plan → IsKeptPlan v g n plan
  plan_here plan z = record {
    derivation = derivation_here plan.derivation z.is.derivation;
    cipher = cipher_here plan.cipher z.is.cipher;
    area = same_area plan.area (own_area (header_of v) (key_of v g) n) (z.is.start ∙ start_is) (z.is.len ∙ len_is);
    area_key_bytes = z.is.area_key_bytes ∙ x.key_bytes;
    key_bytes = z.is.key_bytes ∙ x.key_bytes;
    stripes = z.is.stripes ∙ x.stripes;
    splitter_hash = z.is.splitter_hash ∙ x.texts field.HashSpec;
    digest = record {
      hash = z.is.digest.hash ∙ x.texts field.HashSpec;
      iterations = z.is.digest.iterations ∙ x.digest_iterations;
      salt = z.is.digest.salt ∙ x.digest_salt;
      stored = z.is.digest.stored ∙ x.digest;
    };
  }

  pub plan_there : (plan : SlotPlan) → IsKeptPlan v g n plan → HasLuks1Plan b n plan
  plan_there plan z = record {
    numbered = x.numbered;
    is = record {
      derivation = derivation_there plan.derivation z.derivation;
      cipher = cipher_there plan.cipher z.cipher;
      start = ap (λ (a : Area). a.start) z.area ∙ sym start_is;
      len = ap (λ (a : Area). a.len) z.area ∙ sym len_is;
      area_key_bytes = z.area_key_bytes ∙ sym x.key_bytes;
      key_bytes = z.key_bytes ∙ sym x.key_bytes;
      stripes = z.stripes ∙ sym x.stripes;
      splitter_hash = z.splitter_hash ∙ sym (x.texts field.HashSpec);
      digest = record {
        hash = z.digest.hash ∙ sym (x.texts field.HashSpec);
        iterations = z.digest.iterations ∙ sym x.digest_iterations;
        salt = z.digest.salt ∙ sym x.digest_salt;
        stored = z.digest.stored ∙ sym x.digest;
      };
    };
  }
