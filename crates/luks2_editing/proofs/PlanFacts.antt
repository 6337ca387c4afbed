-- The plan of a keyslot that an edit makes or seals again, beside that of the keyslot that it opened.
use Rattle.std.proofs.Common.{◌≡◌, ◌≤◌, ℕ, List, [], ◌∷◌, length, codes, false, Some, None, option_and_then, refl, sym, ap, ◌∙◌, arith}
use Rattle.std.proofs.lemmas.Option.{same_Some}
use Rattle.serde_json.specs.Data.{Data as Value}
use Rattle.serde_json.specs.Find.{get}
use Rattle.luks_rules.specs.declared.table.Member.TheVariants as name
use Rattle.luks_rules.specs.declared.table.Outer.TheVariants as outer
use Rattle.luks_rules.specs.declared.table.Section.TheVariants.{Digests}
use Rattle.luks_rules.specs.Faults.{member_at, object_at}
use Rattle.luks_rules.specs.Reading.{number_in, text_of}
use Rattle.luks_making.specs.Derivations.{asked_beyond}
use Rattle.luks_making.specs.Naming.{IsDigestOf}
use Rattle.luks_making.specs.Unchanged.{KeepsObjects, SaysNew}
use Rattle.luks_making.specs.Keyslots.{NewMembers}
use Rattle.luks_slot.specs.declared.allowed.Allowed.{Allowed}
use Rattle.luks_slot.specs.declared.fault.SlotFault.{SlotFault}
use Rattle.luks_slot.specs.Refusal.{slot_refusal_within}
use Rattle.luks_reading.specs.Plans.{IsLuks2Digest}
use Rattle.luks2_edit_laws.specs.Edited.{keyslot_salt}
use Rattle.luks2_edit_laws.proofs.AlikeFacts.{alike_refusal, changed_derived_or, SaysLike}
use Rattle.luks2_edit_laws.proofs.SealFacts.{salt_length, IsOpened}
use Rattle.luks2_editing.specs.SealedKeyslot.{HasRefusedKeyslot}

-- the new salt is long enough for Argon2
pub long_salt : (random : List ℕ) → 160 ≤ length random → 8 ≤ length (keyslot_salt random)
long_salt random enough = let long : length (keyslot_salt random) ≡ 32 = salt_length random enough in omega (arith, long)

-- ---- a keyslot that says of its opening what another says

-- one that was changed
pub like_changed : (allowed : Allowed) (was now : Value) (f : NewMembers) → SaysNew f was now → 8 ≤ length f.salt → asked_beyond allowed.memory f.derivation ≡ false → SaysLike allowed was now
like_changed allowed was now f says long within = record {
  derived = λ a b hash x y splitter.
      changed_derived_or allowed f was now hash says.salt long (ap (λ a. text_of (option_and_then (get (codes "hash")) a)) (says.members (codes "af") refl) ∙ splitter)
      f.derivation.chosen a b within says.derivation x y;
  sealing = record {
    encryption = ap text_of (says.area (codes "encryption") refl);
    area_key = ap (number_in 1 128) (says.area (codes "key_size") refl);
    splitter = ap (λ a. text_of (option_and_then (get (codes "hash")) a)) (says.members (codes "af") refl);
  };
}

-- where a keyslot was opened, a new one that says the same, by a digest that says the same, isn't
-- refused
pub like_unrefused : {allowed : Allowed} {v : List ℕ} {o : ℕ} (j k : Value) (opener n : ℕ) (g : SlotFault) (x : IsOpened allowed v o j opener) (y : HasRefusedKeyslot allowed k n g) → SaysLike allowed x.object y.object
    → ((m : ℕ) → IsDigestOf j opener m → IsDigestOf k n m) → KeepsObjects (codes "keyslots" ∷ []) Digests j k → ⊥
like_unrefused {allowed} j k opener n g x y like names keeps =
    let was : IsLuks2Digest j opener x.plan.digest = x.is.digest in
    let now : IsLuks2Digest k n y.plan.digest = y.is.digest in
    let number : was.number ≡ now.number = y.one was.number (names was.number was.names) in
    let there = keeps.there was.number was.object was.there in
    let object : there.0 ≡ now.object = same_Some there.0 now.object (sym there.1 ∙ ap (object_at k Digests) number ∙ now.there) in
    let hash : text_of (member_at now.object outer.Top name.Hash) ≡ text_of (member_at was.object outer.Top name.Hash) =
    ap (λ d. text_of (member_at d outer.Top name.Hash)) (sym object) ∙ ap text_of (there.2 (codes "hash") refl) in
    let same : slot_refusal_within allowed x.plan ≡ slot_refusal_within allowed y.plan = alike_refusal allowed x.plan y.plan like x.refused x.is y.is
    (same_Some x.plan.digest.hash.now y.plan.digest.hash.now (sym was.hash ∙ sym hash ∙ now.hash)) in
    let both : None ≡ Some g = sym x.refused ∙ same ∙ y.refused in
    absurd (cc)
