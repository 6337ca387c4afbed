-- A volume that was formatted by LUKS1 is well formed, and its keyslot 0 opens.
use Rattle.std.proofs.Common.{codes, slice_index_or, ◌≡◌, ℕ, ◌*◌, ◌-◌, ◌+◌, ◌≤◌, List, length, Some, None, Bool, true, false, arith, refl, sym, ap, ◌∙◌, lit≤, lit<, if◌then◌else◌}
use Rattle.byteorder.specs.Endian.{big_number}
use Rattle.luks_area.specs.Ranges.{part}
use Rattle.luks_kdf.specs.Names.{name_of}
use Rattle.luks_kdf.specs.KeyslotNames.{each_keyslot_at_least, keyslot_digest, keyslot_digest_size, length-keyslot_digest}
use Rattle.luks_kdf.specs.declared.keyslot_hash.KeyslotHash.{KeyslotHash}
use Rattle.luks_kdf.proofs.SplitterFacts.{merge-split}
use Rattle.luks_area.proofs.RangeFacts.{length-part_inside, part-part}
use Rattle.luks_area.specs.declared.area.Area.{Area}
use Rattle.luks1_header.specs.Bytes.{text_at, IsUuid}
use Rattle.luks1_header.specs.Faults.{IsCommonFault, IsEntryFault}
use Rattle.luks1_header.specs.Header1.{active_word, enabled_word, entry, entry_iterations}
use Rattle.luks1_header.proofs.Luks1FaultFacts.{common_sound, entry_sound}
use Rattle.luks1_header.specs.declared.fault.HeadFault.{HeadFault}
use Rattle.luks1_header.specs.declared.fault.HeadFault.TheVariants as fault
use Rattle.luks1_header.specs.declared.fault.IterationsOf.TheVariants as of
use Rattle.luks1_header.specs.declared.luks1.Luks1Slot.{Luks1Slot}
use Rattle.luks2_header.specs.Selection.{luks1, Chosen}
use Rattle.luks_slot.specs.Opening.{hash_by_name, meets_digest, slot_key}
use Rattle.luks_slot.specs.Allowance.{without_memory}
use Rattle.luks_slot.specs.Refusal.{slot_refusal_within}
use Rattle.luks_slot.specs.declared.allowed.Allowed.{Allowed}
use Rattle.luks_slot.specs.Sealing.{IsSealed}
use Rattle.luks_slot.proofs.SealingFacts.{sealed_opens}
use Rattle.luks_slot.specs.declared.plan.AreaCipher.{AreaCipher}
use Rattle.luks_slot.specs.declared.plan.AreaCipher.TheVariants.{Apart, Whole}
use Rattle.luks_slot.specs.declared.plan.Derivation.{Derivation}
use Rattle.luks_slot.specs.declared.plan.Derivation.TheVariants.{Pbkdf2, Argon2}
use Rattle.luks_slot.specs.declared.plan.SlotPlan.{SlotPlan}
use Rattle.luks_reading.specs.Answer.{AnswerWithin, IsLuks1HeadRefusal, IsLuks1Refusal, opens}
use Rattle.luks_reading.specs.Checked.{WellFormed}
use Rattle.luks_reading.specs.Plans.{HasLuks1Plan, IsLuks1Cipher, IsLuks1Derivation}
use Rattle.luks_reading.specs.declared.open_fault.OpenFault.{OpenFault}
use Rattle.luks_reading.specs.declared.open_fault.OpenFault.TheVariants.{Head, Meta, NoSuchSlot, SlotFree, Outside, Slot, Device, Memory}
use Rattle.luks_reading.specs.declared.format.Format.{Format}
use Rattle.luks_formatting.specs.declared.new_cipher.NewCipher.{NewCipher}
use Rattle.luks_formatting.specs.Encrypting.{is_older, mode_of, used_bytes}
use Rattle.luks_formatting.specs.Formatted1.{IsFormatted1As}
use Rattle.luks_formatting.specs.Given.{key_of, uuid_of, IsSound1}
use Rattle.luks_formatting.specs.declared.given.Given.{Given}
use Rattle.luks_formatting.specs.NewHeader1.{area1, new_slot, IsNewCipher1}
use Rattle.luks_formatting.specs.NewPlan.{key_digest, IsNewDerivation, IsNewPlan}
use Rattle.luks_formatting.specs.RandomBytes.{digest_salt, needed_bytes, random_stripes, slot_place1, slot_salt}
use Rattle.luks_formatting.proofs.GivenFacts.{length-key_of, uuid_is}
use Rattle.luks_formatting.proofs.NewHeader1Facts.{common, fields, first_start, fit, header, holds, key_size, slot_len, stripes_at}
use Rattle.luks_formatting.proofs.EncryptingFacts.{opens1, sizes, used_most, AreSizes}
use Rattle.luks_formatting.proofs.NewPlanFacts.{key_meets, pbkdf2_within, unrefused_by}

-- an area by its numbers
pub area_is : (a : Area) (start len : ℕ) → a.start ≡ start → a.len ≡ len → a ≡ record { start = start; len = len }
area_is a start len first second =
    let at : ℕ → ℕ → Area = λ s l. record { start = s; len = l } in
    ap (λ s. at s a.len) first ∙ ap (at start) second

derivation_is : (h e : List ℕ) (format : Format) (salt : List ℕ) (d : Derivation) → text_at h 72 32 ≡ name_of format.hash → entry_iterations e ≡ format.iterations → part e 8 32 ≡ salt
    → IsLuks1Derivation h e d → IsNewDerivation format salt d
derivation_is h e format salt (Pbkdf2 hash iterations own) name turns is_salt is = (is.0 ∙ name, is.1 ∙ turns, is.2 ∙ is_salt)
derivation_is h e format salt (Argon2 c) name turns is_salt is = absurd is

cipher_is : (c : NewCipher) (h : List ℕ) (cipher : AreaCipher) → text_at h 8 32 ≡ codes "aes" → text_at h 40 32 ≡ mode_of c → IsLuks1Cipher h cipher → IsNewCipher1 c cipher
cipher_is c h (Apart name mode) is_name is_mode is = (is.0 ∙ is_name, is.1 ∙ is_mode)
cipher_is c h (Whole text) is_name is_mode is = absurd is

-- what a sealed area opens to, where the key meets the digest
pub reopens : (plan : SlotPlan) (area passphrase key random : List ℕ) → 1 ≤ plan.stripes → length key ≡ plan.key_bytes
    → length random ≡ (plan.stripes - 1) * plan.key_bytes → IsSealed plan area passphrase key random
    → slot_key plan area passphrase ≡ (if meets_digest plan.digest key then Some key else None)
reopens plan area passphrase key random some size counted =
    let hash : KeyslotHash = hash_by_name plan.splitter_hash.now in
    sealed_opens plan area passphrase key random some size counted
    (merge-split (keyslot_digest hash) (keyslot_digest_size hash) (length-keyslot_digest hash) (each_keyslot_at_least 1 keyslot_digest_size refl hash))

module _ (given : Given) (format : Format) (passphrase random old new : List ℕ) (some : 1 ≤ format.iterations) (large : 2097152 ≤ length new)
    (sound : IsSound1 given (length new)) (x : IsFormatted1As given format passphrase random old new) where
  own : IsUuid (uuid_of given random)
  own = uuid_is given random sound.uuid

  sized : AreSizes given.key_bytes
  sized = sizes given.cipher given.key_bytes sound.takes

  h : List ℕ
  h = part new 0 592

  chosen : Chosen new luks1
  unfolding h
  chosen = record {
    long = omega (arith, large);
    magic = sym (part-part new 0 592 0 6 (lit≤ tt)) ∙ x.written.common.magic;
    version = ap (λ b. big_number 2 b) (sym (part-part new 0 592 6 2 (lit≤ tt))) ∙ x.written.common.version;
  }

  pub well_formed : WellFormed new given.payload
  well_formed = record {
    choice = luks1;
    chosen = chosen;
    formed = record {
      header = (x.header, header given format random (part new 0 592) x.header x.fields x.written own some sized);
      fit = fit given format random (part new 0 592) x.header x.fields x.written (length new) sound large;
    };
  }

  -- the plans of keyslot 0
  hash_name : text_at (part new 0 592) 72 32 ≡ name_of format.hash
  hash_name = (fields given format random (part new 0 592) x.header x.fields x.written own).hash_spec ∙ x.fields.common.hash_spec

  new_plan : (plan : SlotPlan) → HasLuks1Plan (part new 0 592) 0 plan
      → IsNewPlan format given.key_bytes (slot_salt (slot_place1 given.key_bytes) random) (area1 given.key_bytes) (digest_salt given.key_bytes random) (key_digest given format random 20) plan
  new_plan plan y =
      let common_is = fields given format random (part new 0 592) x.header x.fields x.written own in
      let entry_is = holds given format random (part new 0 592) x.header x.fields x.written own 0 (lit< tt) in
      let start : plan.area.start ≡ 4096 = y.is.start ∙ ap (λ s. s * 512) (first_start given format random (part new 0 592) x.header x.fields x.written own) in
      let len : plan.area.len ≡ used_bytes given.key_bytes = y.is.len ∙ slot_len given format random (part new 0 592) x.header x.fields x.written own 0 (lit< tt) in
      let key = key_size given format random (part new 0 592) x.header x.fields x.written own in
      record {
        derivation = derivation_is (part new 0 592) (entry (part new 0 592) 0) format (slot_salt (slot_place1 given.key_bytes) random) plan.derivation hash_name entry_is.iterations entry_is.salt y.is.derivation;
        area = area_is plan.area 4096 (used_bytes given.key_bytes) start len;
        area_key_bytes = y.is.area_key_bytes ∙ key;
        key_bytes = y.is.key_bytes ∙ key;
        stripes = y.is.stripes ∙ stripes_at given format random (part new 0 592) x.header x.fields x.written own 0 (lit< tt);
        splitter_hash = y.is.splitter_hash ∙ hash_name;
        digest = record {
          hash = y.is.digest.hash ∙ hash_name;
          iterations = y.is.digest.iterations ∙ common_is.mk_digest_iterations ∙ x.fields.common.mk_digest_iterations;
          own_salt = y.is.digest.salt ∙ common_is.mk_digest_salt ∙ x.fields.common.mk_digest_salt;
          own_stored = y.is.digest.stored ∙ common_is.mk_digest ∙ x.fields.common.mk_digest;
        };
      }

  plan_unrefused : (older : Bool) → (is_older given.cipher ≡ true → older ≡ true) → (plan : SlotPlan) → HasLuks1Plan (part new 0 592) 0 plan → slot_refusal_within (without_memory older) plan ≡ None
  plan_unrefused older may plan y =
      let common_is = fields given format random (part new 0 592) x.header x.fields x.written own in
      let is = new_plan plan y in
      let cipher = cipher_is given.cipher (part new 0 592) plan.cipher (common_is.cipher_name ∙ x.fields.common.cipher_name) (common_is.cipher_mode ∙ x.fields.common.cipher_mode) y.is.cipher in
      unrefused_by format None given.cipher given.key_bytes (slot_salt (slot_place1 given.key_bytes) random) (area1 given.key_bytes) (digest_salt given.key_bytes random) (key_digest given format random 20) plan
      is (opens1 given.cipher plan.cipher cipher) sound.takes (without_memory older) may
      (pbkdf2_within 0 (name_of format.hash) format.iterations (slot_salt (slot_place1 given.key_bytes) random) plan.derivation is.derivation)

  no_common : (f : HeadFault) → IsCommonFault (part new 0 592) f → ⊥
  no_common = common_sound (part new 0 592) x.header.common (common given format random (part new 0 592) x.header x.fields x.written own some sized)

  no_entry : (f : HeadFault) → IsEntryFault 0 (entry (part new 0 592) 0) f → ⊥
  no_entry =
      let whole = header given format random (part new 0 592) x.header x.fields x.written own some sized in
      let slot : Luks1Slot = new_slot given.key_bytes format random 0 in
      entry_sound 0 (entry (part new 0 592) 0) (slice_index_or x.header.slots 0 slot) (whole.slots.each 0 slot (lit< tt))

  no_head : (f : HeadFault) → IsLuks1HeadRefusal (part new 0 592) 0 f → ⊥
  no_head (fault.SlotState m) y = no_entry (fault.SlotState m) y.1
  no_head (fault.Stripes m) y = no_entry (fault.Stripes m) y.1
  no_head (fault.Iterations (of.Slot m)) y = no_entry (fault.Iterations (of.Slot m)) y.1
  no_head f y = no_common f y

  -- where older ciphers are accepted if its own is one, it opens
  module _ (allowed : Allowed) (may : is_older given.cipher ≡ true → allowed.older ≡ true) where
    none : (f : OpenFault) → IsLuks1Refusal allowed.older (part new 0 592) (length new) 0 f → ⊥
    none (Head f) y = no_head f y
    none (Meta f) y = y
    none NoSuchSlot y = absurd (omega (arith, y))
    none SlotFree y =
        let on : active_word (entry (part new 0 592) 0) ≡ enabled_word = (holds given format random (part new 0 592) x.header x.fields x.written own 0 (lit< tt)).state in
        let off = y.1 in
        absurd (omega (arith, on, off))
    none Outside y =
        let past = y.past in
        let most = used_most given.key_bytes sized.high in
        let start = ap (λ (a : Area). a.start) (new_plan y.plan y.is).area in
        let len = ap (λ (a : Area). a.len) (new_plan y.plan y.is).area in
        absurd (omega (arith, past, start, len, most, large))
    none (Slot s) y = (let both : None ≡ Some s = sym (plan_unrefused allowed.older may y.plan y.is) ∙ y.refused in absurd (cc))
    none Device y = y
    none Memory y = y

    pub slot_opens : length random ≡ needed_bytes false given.key_bytes → AnswerWithin allowed new 0 passphrase (opens (key_of given random))
    slot_opens counted =
        let plan = x.slot.plan in
        let is = new_plan plan x.slot.is in
        let stored : length (key_digest given format random 20) ≡ 20 =
        ap length (sym ((fields given format random (part new 0 592) x.header x.fields x.written own).mk_digest ∙ x.fields.common.mk_digest))
        ∙ length-part_inside (part new 0 592) 112 20 (let long = length-part_inside new 0 592 (omega (arith, large)) in omega (arith, long)) in
        let key_len : length (key_of given random) ≡ plan.key_bytes = length-key_of given random sound.key (omega (arith, counted)) ∙ sym is.key_bytes in
        let random_len : length (random_stripes given.key_bytes (slot_place1 given.key_bytes) random) ≡ (plan.stripes - 1) * plan.key_bytes =
        length-part_inside random (slot_place1 given.key_bytes + 32) (3999 * given.key_bytes) (omega (arith, counted)) ∙ sym (ap (λ s. (s - 1) * plan.key_bytes) is.stripes ∙ ap (λ k. (4000 - 1) * k) is.key_bytes) in
        let meets = key_meets given format random 20 plan.digest is.digest stored in
        let stripes = is.stripes in
        record {
          choice = luks1;
          chosen = chosen;
          plan = plan;
          is = x.slot.is;
          unrefused = none;
          key = reopens plan (part new plan.area.start plan.area.len) passphrase (key_of given random) (random_stripes given.key_bytes (slot_place1 given.key_bytes) random) (omega (arith, stripes)) key_len random_len x.slot.sealed
              ∙ ap (λ b. if b then Some (key_of given random) else None) meets;
        }
