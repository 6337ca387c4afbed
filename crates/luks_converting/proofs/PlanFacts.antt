-- The plan of a converted keyslot is the copy of the old one.
use Rattle.std.proofs.Common.{◌≡◌, ℕ, List, true, Some, sym, ap, subst, ◌∙◌, inl, inr}
use Rattle.std.proofs.lemmas.Bool.{cases_eq}
use Rattle.serde_json.specs.Data.{Data}
use Rattle.luks1_header.specs.Bytes.{text_at}
use Rattle.luks1_header.specs.Header1.{entry, entry_iterations, entry_salt, entry_stripes, key_bytes_of, mk_digest_iterations_of, mk_digest_of, mk_digest_salt_of}
use Rattle.luks_rules.specs.Faults.{object_at}
use Rattle.luks_rules.specs.declared.table.Section.TheVariants.{Digests, Keyslots}
use Rattle.luks_making.specs.Conversions.{SaysSource}
use Rattle.luks_making.specs.Converted.{converted_slot, volume_like}
use Rattle.luks_making.specs.Keyslots.{SlotMembers, slot_value}
use Rattle.luks_making.specs.NewVolumes.{SaysDigest}
use Rattle.luks_making.specs.Unchanged.{SaysMembers}
use Rattle.luks_slot.specs.declared.plan.AreaCipher.{AreaCipher}
use Rattle.luks_slot.specs.declared.plan.AreaCipher.TheVariants.{Apart, Whole}
use Rattle.luks_slot.specs.declared.plan.Derivation.{Derivation}
use Rattle.luks_slot.specs.declared.plan.Derivation.TheVariants.{Pbkdf2, Argon2}
use Rattle.luks_slot.specs.declared.plan.DigestPlan.{DigestPlan}
use Rattle.luks_slot.specs.declared.plan.SlotPlan.{SlotPlan}
use Rattle.luks_reading.proofs.PlanFacts.{no_pbkdf2}
use Rattle.luks_reading.specs.Plans.{IsLuks1Cipher, IsLuks1Derivation, IsLuks1Digest, IsLuks1Plan, IsLuks2Cipher, IsLuks2Derivation, IsLuks2Digest, IsLuks2Plan}
use Rattle.luks_converting.specs.Converted.{new_size, new_start}
use Rattle.luks_converting.specs.Copied.{IsCopiedPlan, IsJoinedCipher, IsSameDerivation, IsSameDigest}
use Rattle.luks_converting.specs.Source.{encryption_of, header_members, is_enabled, slot_members}
use Rattle.luks_converting.proofs.SourceFacts.{low_of, no_some, slot_there, some_same}

-- what the new metadata says of the keyslot `n`
abbrev pub new_slot : List ℕ → ℕ → SlotMembers
new_slot h n = converted_slot (header_members h) n (slot_members (entry h n))

-- ---- plans

module _ (h : List ℕ) (j : Data) (x : SaysSource (header_members h) j) (n : ℕ) (on : is_enabled h n ≡ true) where
  says : SaysMembers (new_slot h n) (slot_value (new_slot h n))
  says = x.slot_says n (slot_members (entry h n)) (low_of h n on) (slot_there h n on)

  pub keyslot_there : object_at j Keyslots n ≡ Some (slot_value (new_slot h n))
  keyslot_there = x.keyslot n (slot_members (entry h n)) (low_of h n on) (slot_there h n on)

  same_derivation : (a b : Derivation) → IsLuks1Derivation h (entry h n) a → IsLuks2Derivation (slot_value (new_slot h n)) b → IsSameDerivation a b
  same_derivation (Pbkdf2 k i s) (Pbkdf2 l t u) y z = (
    y.0 ∙ some_same (text_at h 72 32) l.now (sym says.derivation.hash ∙ z.1),
    y.1 ∙ some_same (entry_iterations (entry h n)) t (sym says.derivation.iterations ∙ z.2),
    y.2 ∙ some_same (entry_salt (entry h n)) u.now (sym says.salt ∙ z.3),
  )
  same_derivation (Pbkdf2 k i s) (Argon2 c) y z = absurd (no_pbkdf2 (slot_value (new_slot h n)) c z says.derivation.kind)
  same_derivation (Argon2 c) b y z = absurd y

  joined_cipher : (a b : AreaCipher) → IsLuks1Cipher h a → IsLuks2Cipher (slot_value (new_slot h n)) b → IsJoinedCipher a b
  joined_cipher (Apart k m) (Whole t) y z = (
      let text : encryption_of h ≡ t.now = some_same (encryption_of h) t.now (sym says.encryption ∙ z) in
      rw (y.0, y.1) (sym text))
  joined_cipher (Apart k m) (Apart l o) y z = absurd z
  joined_cipher (Whole t) b y z = absurd y

  -- there is one digest
  only_digest : (k : ℕ) (o : Data) → object_at j Digests k ≡ Some o → x.digest ≡ o
  only_digest k o there = elim (cases_eq k 0) [
    | inl first ↦ some_same x.digest o (sym x.digest_at ∙ ap (object_at j Digests) (sym first) ∙ there)
    | inr other ↦ absurd (no_some o (sym (x.no_digest k other) ∙ there))
  ]

  same_digest : (a b : DigestPlan) → IsLuks1Digest h a → IsLuks2Digest j n b → IsSameDigest a b
  same_digest a b y z =
      let says : SaysDigest (volume_like (header_members h)) z.object = subst (SaysDigest (volume_like (header_members h))) (only_digest z.number z.object z.there) x.digest_says in
      record {
        hash = y.hash ∙ some_same (text_at h 72 32) b.hash.now (sym says.hash ∙ z.hash);
        iterations = y.iterations ∙ some_same (mk_digest_iterations_of h) b.iterations (sym says.iterations ∙ z.iterations);
        salt = y.salt ∙ some_same (mk_digest_salt_of h) b.salt.now (sym says.salt ∙ z.salt);
        stored = y.stored ∙ some_same (mk_digest_of h) b.stored.now (sym says.stored ∙ z.stored);
      }

  -- a plan that the new metadata gives is the copy of the old one
  pub copied_plan : (a b : SlotPlan) → IsLuks1Plan h (entry h n) a → IsLuks2Plan j n (slot_value (new_slot h n)) b → IsCopiedPlan a b
  copied_plan a b y z = record {
    derivation = same_derivation a.derivation b.derivation y.derivation z.derivation;
    cipher = joined_cipher a.cipher b.cipher y.cipher z.cipher;
    area_key_bytes = y.area_key_bytes ∙ some_same (key_bytes_of h) b.area_key_bytes (sym says.area_key_size ∙ z.area_key_bytes);
    key_bytes = y.key_bytes ∙ some_same (key_bytes_of h) b.key_bytes (sym says.key_size ∙ z.key_bytes);
    stripes = y.stripes ∙ some_same (entry_stripes (entry h n)) b.stripes (sym says.stripes ∙ z.stripes);
    splitter_hash = y.splitter_hash ∙ some_same (text_at h 72 32) b.splitter_hash.now (sym says.splitter_hash ∙ z.splitter_hash);
    digest = same_digest a.digest b.digest y.digest z.digest;
  }

  -- where its area stands
  pub plan_start : (b : SlotPlan) → IsLuks2Plan j n (slot_value (new_slot h n)) b → b.area.start ≡ new_start h n
  plan_start b z = some_same b.area.start (new_start h n) (sym z.start ∙ says.offset)

  pub plan_len : (b : SlotPlan) → IsLuks2Plan j n (slot_value (new_slot h n)) b → b.area.len ≡ new_size h n
  plan_len b z = some_same b.area.len (new_size h n) (sym z.len ∙ says.size)

  -- and there is one
  pub new_plan : SlotPlan
  new_plan = record {
    derivation = Pbkdf2 (record { ref_ptr = (0, 0); now = text_at h 72 32 }) (entry_iterations (entry h n)) (record { ref_ptr = (0, 0); now = entry_salt (entry h n) });
    cipher = Whole (record { ref_ptr = (0, 0); now = encryption_of h });
    area = record { start = new_start h n; len = new_size h n };
    area_key_bytes = key_bytes_of h;
    key_bytes = key_bytes_of h;
    stripes = entry_stripes (entry h n);
    splitter_hash = record { ref_ptr = (0, 0); now = text_at h 72 32 };
    digest = record {
      hash = record { ref_ptr = (0, 0); now = text_at h 72 32 };
      iterations = mk_digest_iterations_of h;
      salt = record { ref_ptr = (0, 0); now = mk_digest_salt_of h };
      stored = record { ref_ptr = (0, 0); now = mk_digest_of h };
    };
  }

  pub has_plan : IsLuks2Plan j n (slot_value (new_slot h n)) new_plan
  unfolding new_plan
  has_plan = record {
    derivation = (says.derivation.kind, says.derivation.hash, says.derivation.iterations, says.salt);
    cipher = says.encryption;
    start = says.offset;
    len = says.size;
    area_key_bytes = says.area_key_size;
    key_bytes = says.key_size;
    stripes = says.stripes;
    splitter_hash = says.splitter_hash;
    digest = record {
      number = 0;
      names = x.names n (slot_members (entry h n)) (low_of h n on) (slot_there h n on);
      object = x.digest;
      there = x.digest_at;
      hash = x.digest_says.hash;
      iterations = x.digest_says.iterations;
      salt = x.digest_says.salt;
      stored = x.digest_says.stored;
    };
  }
