-- A keyslot that was made opens by its passphrase to the key that another one opened.
use Rattle.std.proofs.Common.{◌≡◌, ℕ, ◌*◌, ◌<◌, ◌≤◌, List, length, refl, sym, ap, ◌∙◌, arith, inl, inr, true, false, Bool, Some, None, lit≤}
use Rattle.std.specs.Prelude.{if◌then◌else◌}
use Rattle.std.proofs.lemmas.Bool.{cases_eq}
use Rattle.luks_area.specs.Ranges.{part}
use Rattle.luks_area.specs.Sectors.{rounded_to_sectors}
use Rattle.luks1_header.specs.Bytes.{number_at, text_at}
use Rattle.luks1_header.specs.Faults.{IsEntryFault, IsLuks1Fault as IsLuks1HeadFault}
use Rattle.luks1_header.specs.Header1.{active_word, disabled_word, enabled_word, entry, entry_iterations, entry_stripes}
use Rattle.luks1_header.specs.declared.fault.HeadFault.{HeadFault}
use Rattle.luks1_header.specs.declared.fault.HeadFault.TheVariants as fault
use Rattle.luks1_header.specs.declared.fault.IterationsOf.TheVariants as of
use Rattle.luks2_header.specs.Selection.{luks1, Chosen}
use Rattle.luks_slot.specs.declared.plan.AreaCipher.{AreaCipher}
use Rattle.luks_slot.specs.declared.plan.AreaCipher.TheVariants.{Apart, Whole}
use Rattle.luks_slot.specs.declared.plan.Derivation.{Derivation}
use Rattle.luks_slot.specs.declared.plan.Derivation.TheVariants.{Pbkdf2, Argon2}
use Rattle.luks_slot.specs.declared.plan.SlotPlan.{SlotPlan}
use Rattle.luks_slot.specs.Opening.{meets_digest, slot_key}
use Rattle.luks_slot.specs.declared.allowed.Allowed.{Allowed}
use Rattle.luks_slot.specs.Allowance.{without_memory}
use Rattle.luks_slot.specs.Refusal.{is_allowed_cipher, is_argon2, is_argon2_refused, is_key_size, is_known_derivation, is_known_hash, slot_refusal_within}
use Rattle.luks_kdf.specs.KeyslotNames.{each_keyslot_at_least, keyslot_digest, keyslot_digest_size, length-keyslot_digest}
use Rattle.luks_kdf.proofs.SplitterFacts.{merge-split}
use Rattle.luks_slot.specs.Opening.{hash_by_name}
use Rattle.luks_slot.proofs.SealingFacts.{sealed_opens}
use Rattle.luks_reading.specs.declared.open_fault.OpenFault.{OpenFault}
use Rattle.luks_reading.specs.declared.open_fault.OpenFault.TheVariants.{Head, Meta, NoSuchSlot, SlotFree, Outside, Slot, Device, Memory}
use Rattle.luks_reading.specs.declared.report.Data.{Data}
use Rattle.luks_reading.specs.Answer.{AnswerWithin, IsLuks1Refusal, opens}
use Rattle.luks_reading.specs.Checked.{IsLuks1Volume, WellFormed}
use Rattle.luks_reading.specs.Plans.{HasLuks1Plan, IsLuks1Cipher, IsLuks1Derivation, IsLuks1Plan}
use Rattle.luks1_edits.specs.Edited.{HoldsKey, IsMade}
use Rattle.luks1_edits.specs.Kept.{HasSameCommon}
use Rattle.luks1_edits.specs.Places.{area_len, area_start}
use Rattle.luks1_edits.proofs.AnswerFacts.{SameFront, common_or_entry, number_moves, same_front, text_moves}
use Rattle.luks1_edits.proofs.HeaderFacts.{chosen_moves, common_moves, entry_is, front_moves, header_clear, len_is, number_same, same_common_back, start_is, volume_of}
use Rattle.luks1_edits.proofs.KeptFacts.{area_inside}

-- what two plans share whose headers say the same before the keyslots
pub record SameTerms (a b : SlotPlan) : Type 0 where
  pub argon2 : (memory : ℕ) → is_argon2_refused memory a.derivation ≡ is_argon2_refused memory b.derivation
  pub known : (older : Bool) → is_known_derivation older a.derivation ≡ is_known_derivation older b.derivation
  pub cipher : (older : Bool) → is_allowed_cipher older a.cipher ≡ is_allowed_cipher older b.cipher
  pub key_size : (n : ℕ) → is_key_size a.cipher n ≡ is_key_size b.cipher n
  pub area_key_bytes : a.area_key_bytes ≡ b.area_key_bytes
  pub splitter_hash : a.splitter_hash.now ≡ b.splitter_hash.now
  pub digest_hash : a.digest.hash.now ≡ b.digest.hash.now
  pub digest_iterations : a.digest.iterations ≡ b.digest.iterations
  pub digest_salt : a.digest.salt.now ≡ b.digest.salt.now
  pub digest_stored : a.digest.stored.now ≡ b.digest.stored.now

argon2_both : (h g e f : List ℕ) (a b : Derivation) (memory : ℕ) → IsLuks1Derivation h e a → IsLuks1Derivation g f b → is_argon2_refused memory a ≡ is_argon2_refused memory b
argon2_both h g e f (Pbkdf2 k i s) (Pbkdf2 l j t) memory x y = refl
argon2_both h g e f (Pbkdf2 k i s) (Argon2 c) memory x y = absurd y
argon2_both h g e f (Argon2 c) b memory x y = absurd x

known_both : (h g e f : List ℕ) (a b : Derivation) (older : Bool) → text_at h 72 32 ≡ text_at g 72 32 → IsLuks1Derivation h e a → IsLuks1Derivation g f b
    → is_known_derivation older a ≡ is_known_derivation older b
known_both h g e f (Pbkdf2 k i s) (Pbkdf2 l j t) older same x y = ap (is_known_hash older) (x.0 ∙ same ∙ sym y.0)
known_both h g e f (Pbkdf2 k i s) (Argon2 c) older same x y = absurd y
known_both h g e f (Argon2 c) b older same x y = absurd x

-- so their ciphers say the same
module _ (h g : List ℕ) (names : text_at h 8 32 ≡ text_at g 8 32) (modes : text_at h 40 32 ≡ text_at g 40 32) where
  cipher_both : (a b : AreaCipher) (older : Bool) → IsLuks1Cipher h a → IsLuks1Cipher g b → is_allowed_cipher older a ≡ is_allowed_cipher older b
  cipher_both (Apart n m) (Apart k l) false x y = let name = x.0 ∙ names ∙ sym y.0 in let mode = x.1 ∙ modes ∙ sym y.1 in simp (name, mode)
  cipher_both (Apart n m) (Apart k l) true x y = let name = x.0 ∙ names ∙ sym y.0 in let mode = x.1 ∙ modes ∙ sym y.1 in simp (name, mode)
  cipher_both (Apart n m) (Whole t) older x y = absurd y
  cipher_both (Whole t) b older x y = absurd x

  key_size_both : (a b : AreaCipher) (size : ℕ) → IsLuks1Cipher h a → IsLuks1Cipher g b → is_key_size a size ≡ is_key_size b size
  key_size_both (Apart n m) (Apart k l) size x y = let name = x.0 ∙ names ∙ sym y.0 in let mode = x.1 ∙ modes ∙ sym y.1 in simp (name, mode)
  key_size_both (Apart n m) (Whole t) size x y = absurd y
  key_size_both (Whole t) b size x y = absurd x

pub same_terms : (h g e f : List ℕ) (a b : SlotPlan) → SameFront h g → IsLuks1Plan h e a → IsLuks1Plan g f b → SameTerms a b
same_terms h g e f a b same x y =
    let hash : text_at h 72 32 ≡ text_at g 72 32 = text_moves h g same 72 32 (lit≤ tt) in
    let key : number_at h 108 4 ≡ number_at g 108 4 = number_moves h g same 108 4 (lit≤ tt) in
    record {
      argon2 = λ memory. argon2_both h g e f a.derivation b.derivation memory x.derivation y.derivation;
      known = λ older. known_both h g e f a.derivation b.derivation older hash x.derivation y.derivation;
      cipher = λ older. cipher_both h g (text_moves h g same 8 32 (lit≤ tt)) (text_moves h g same 40 32 (lit≤ tt)) a.cipher b.cipher older x.cipher y.cipher;
      key_size = λ size. key_size_both h g (text_moves h g same 8 32 (lit≤ tt)) (text_moves h g same 40 32 (lit≤ tt)) a.cipher b.cipher size x.cipher y.cipher;
      area_key_bytes = x.area_key_bytes ∙ key ∙ sym y.area_key_bytes;
      splitter_hash = x.splitter_hash ∙ hash ∙ sym y.splitter_hash;
      digest_hash = x.digest.hash ∙ hash ∙ sym y.digest.hash;
      digest_iterations = x.digest.iterations ∙ number_moves h g same 164 4 (lit≤ tt) ∙ sym y.digest.iterations;
      digest_salt = x.digest.salt ∙ same.parts 132 32 (lit≤ tt) ∙ sym y.digest.salt;
      digest_stored = x.digest.stored ∙ same.parts 112 20 (lit≤ tt) ∙ sym y.digest.stored;
    }

-- so they are refused alike, whatever is allowed
pub same_refusal : (allowed : Allowed) (a b : SlotPlan) → SameTerms a b → slot_refusal_within allowed a ≡ slot_refusal_within allowed b
same_refusal allowed a b s =
    let argon2 = s.argon2 allowed.memory in
    let known = s.known allowed.older in
    let cipher = s.cipher allowed.older in
    let size = s.key_size b.area_key_bytes in
    simp (argon2, known, cipher, size, s.area_key_bytes, s.splitter_hash, s.digest_hash)

-- a keyslot of LUKS1 never derives by Argon2
pub no_argon2 : (h e : List ℕ) (d : Derivation) → IsLuks1Derivation h e d → is_argon2 d ≡ true → ⊥
no_argon2 h e (Pbkdf2 k i s) is bad = absurd (cc)
no_argon2 h e (Argon2 c) is bad = is

pub same_digest : (a b : SlotPlan) (key : List ℕ) → SameTerms a b → meets_digest a.digest key ≡ meets_digest b.digest key
unfolding meets_digest
same_digest a b key s = simp (s.digest_hash, s.digest_iterations, s.digest_salt, s.digest_stored)

-- a number that isn't 0
some : (n : ℕ) → (n ≡ 0 → ⊥) → 1 ≤ n
some n not = elim (cases_eq n 0) [ inl zero ↦ absurd (not zero) | inr other ↦ omega (arith, other) ]

-- a keyslot of the header, in use or not, has a plan that isn't refused, and the key meets its digest
pub record IsPlanned (older : Bool) (v key : List ℕ) : Type 0 where
  pub slot : ℕ
  pub plan : SlotPlan
  pub is : HasLuks1Plan (part v 0 592) slot plan
  pub accepted : slot_refusal_within (without_memory older) plan ≡ None
  pub meets : meets_digest plan.digest key ≡ true

-- the keyslot `n` of the volume `w` was made, of a well formed volume `v` with the same front, for a key that
-- meets its digest
pub record IsMadeFrom (allowed : Allowed) (payload : Data) (v : List ℕ) (n iterations : ℕ) (salt new key random w : List ℕ) : Type 0 where
  pub chosen : Chosen v luks1
  pub well : WellFormed v payload
  pub length_same : length w ≡ length v
  pub common : HasSameCommon v w
  pub opened : IsPlanned allowed.older v key
  pub numbered : n < 8
  pub iterated : 1 ≤ iterations
  pub made : IsMade (entry v n) (entry w n) iterations salt
  pub holds : HoldsKey w n new key random

module _ (allowed : Allowed) (payload : Data) (v : List ℕ) (n iterations : ℕ) (salt new key random w : List ℕ)
    (x : IsMadeFrom allowed payload v n iterations salt new key random w) where
  whole : IsLuks1Volume (part v 0 592) payload (length v)
  whole = volume_of v payload x.chosen x.well

  clear : (f : HeadFault) → IsLuks1HeadFault (part v 0 592) f → ⊥
  clear = header_clear v payload x.chosen x.well

  front : SameFront (part v 0 592) (part w 0 592)
  front = same_front v w x.common.front

  terms : (b : SlotPlan) → HasLuks1Plan (part w 0 592) n b → SameTerms x.opened.plan b
  terms b is = same_terms (part v 0 592) (part w 0 592) (entry (part v 0 592) x.opened.slot) (entry (part w 0 592) n) x.opened.plan b front x.opened.is.is is.is

  stripes_before : 1 ≤ entry_stripes (entry v n)
  stripes_before = some (entry_stripes (entry v n)) (λ zero. clear (fault.Stripes n) (x.numbered, ap entry_stripes (entry_is v n x.numbered) ∙ zero))

  striped : 1 ≤ x.holds.plan.stripes
  striped =
      let is : x.holds.plan.stripes ≡ entry_stripes (entry v n) = x.holds.is.is.stripes ∙ ap entry_stripes (entry_is w n x.numbered) ∙ x.made.stripes in
      let before = stripes_before in
      omega (arith, is, before)

  -- the key meets the digest, which is the volume's
  meets : meets_digest x.holds.plan.digest key ≡ true
  meets = sym (same_digest x.opened.plan x.holds.plan key (terms x.holds.plan x.holds.is)) ∙ x.opened.meets

  found : slot_key x.holds.plan (part w x.holds.plan.area.start x.holds.plan.area.len) new ≡ Some key
  found = let hash = hash_by_name x.holds.plan.splitter_hash.now in
      sealed_opens x.holds.plan (part w x.holds.plan.area.start x.holds.plan.area.len) new key random striped x.holds.key_length x.holds.random_length
      (merge-split (keyslot_digest hash) (keyslot_digest_size hash) (length-keyslot_digest hash) (each_keyslot_at_least 1 keyslot_digest_size refl hash)) x.holds.sealed
      ∙ ap (λ (b : Bool). if b then Some key else None) meets

  -- the new entry has no fault
  entry_clear : (f : HeadFault) → IsEntryFault n (entry (part w 0 592) n) f → ⊥
  entry_clear (fault.SlotState m) bad = bad.1.0 (ap active_word (entry_is w n x.numbered) ∙ x.made.enabled)
  entry_clear (fault.Stripes m) bad =
      let zero : entry_stripes (entry v n) ≡ 0 = sym x.made.stripes ∙ sym (ap entry_stripes (entry_is w n x.numbered)) ∙ bad.1 in
      let before = stripes_before in
      omega (arith, zero, before)
  entry_clear (fault.Iterations (of.Slot m)) bad =
      let none : iterations ≡ 0 = sym x.made.iterations_are ∙ sym (ap entry_iterations (entry_is w n x.numbered)) ∙ bad.1.1 in
      let many = x.iterated in
      omega (arith, none, many)
  entry_clear f bad = bad

  -- the new area is where the old one was
  place_kept : (area_start w n ≡ area_start v n) × (area_len w n ≡ area_len v n)
  place_kept = (
    ap (λ k. k * 512) x.made.offset,
    ap (λ k. rounded_to_sectors (k * entry_stripes (entry w n))) (number_same w v 108 4 (front_moves v w x.common.front 108 4 (lit≤ tt)))
        ∙ ap (λ s. rounded_to_sectors (number_at v 108 4 * s)) x.made.stripes,
  )

  unrefused : (f : OpenFault) → IsLuks1Refusal allowed.older (part w 0 592) (length w) n f → ⊥
  unrefused (Head f) y = elim (common_or_entry (part w 0 592) n f y) [
    | inl z ↦ clear f (common_moves w v (same_common_back v w x.common) f z).1
    | inr z ↦ entry_clear f z.fault
  ]
  unrefused (Meta f) y = y
  unrefused NoSuchSlot y = let lt = x.numbered in omega (arith, y, lt)
  unrefused SlotFree y =
      let two : disabled_word ≡ enabled_word = sym y.1 ∙ ap active_word (entry_is w n y.0) ∙ x.made.enabled in
      omega (arith, two)
  unrefused Outside y =
      let past = y.past in
      let start : y.plan.area.start ≡ area_start v n = y.is.is.start ∙ start_is w n x.numbered ∙ place_kept.0 in
      let len : y.plan.area.len ≡ area_len v n = y.is.is.len ∙ len_is w n x.numbered ∙ place_kept.1 in
      let within = area_inside v payload whole.fit n x.numbered in
      let size = x.length_same in
      omega (arith, past, start, len, within, size)
  unrefused (Slot s) y =
      let two : None ≡ Some s = sym x.opened.accepted ∙ same_refusal (without_memory allowed.older) x.opened.plan y.plan (terms y.plan y.is) ∙ y.refused in
      absurd (cc)
  unrefused Device y = y
  unrefused Memory y = y

  pub made_opens : AnswerWithin allowed w n new (opens key)
  made_opens = record {
    choice = luks1;
    chosen = chosen_moves v w x.length_same x.common.front x.chosen;
    plan = x.holds.plan;
    is = x.holds.is;
    unrefused = unrefused;
    key = found;
  }
