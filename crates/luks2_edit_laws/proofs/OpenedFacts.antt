-- After an edit of a LUKS2 volume the keyslot that it made or sealed again opens.
use Rattle.std.proofs.Common.{◌≡◌, ℕ, ◌≤◌, List, length, true, false, codes, Option, Some, None, option_and_then, refl, sym, ap, subst, ◌∙◌, arith}
use Rattle.serde_json.specs.Data.{Data as Value}
use Rattle.serde_json.specs.Find.{get}
use Rattle.luks_rules.specs.declared.table.Member.TheVariants as name
use Rattle.luks_rules.specs.declared.table.Outer.TheVariants as outer
use Rattle.luks_rules.specs.declared.table.Section.TheVariants.{Keyslots}
use Rattle.luks_rules.specs.Faults.{member_at, object_at}
use Rattle.luks_rules.specs.Reading.{number_in, text_of}
use Rattle.luks_making.specs.Changed.{renewed_slot}
use Rattle.luks_making.specs.Derivations.{asked_beyond}
use Rattle.luks_making.specs.Keyslots.{slot_value, IsMadeFrom, NewMembers, SlotMembers}
use Rattle.luks_making.specs.Naming.{IsDigestOf}
use Rattle.luks_making.specs.Unchanged.{ChangesSlot, GainsSlot, KeepsRest, SaysMembers, SaysNew}
use Rattle.luks_meta.proofs.Namings.{one_digest}
use Rattle.luks_slot.specs.declared.allowed.Allowed.{Allowed}
use Rattle.luks_slot.specs.Opening.{meets_digest}
use Rattle.luks_reading.specs.declared.report.Data.{Data}
use Rattle.luks_reading.specs.Answer.{opens, AnswerWithin}
use Rattle.luks_reading.specs.Header.{json_at}
use Rattle.luks_reading.specs.Plans.{IsLuks2Derivation, IsLuks2Digest}
use Rattle.luks_edit.specs.declared.edit.SecretKind.{SecretKind}
use Rattle.luks_edit.specs.Secrets.{AnswersTo}
use Rattle.luks2_edit_laws.specs.Edited.{HoldsKey}
use Rattle.luks2_edit_laws.specs.Metadata.{HasMetadata, IsNewKeyslot}
use Rattle.luks2_edit_laws.proofs.MetadataFacts.{digest_moves, some_same}
use Rattle.luks2_edit_laws.proofs.AlikeFacts.{alike_refusal, changed_derived_or, made_derived_or, OpensAlike, SaysLike}
use Rattle.luks2_edit_laws.proofs.OpenFacts.{holds_opens}
use Rattle.luks2_edit_laws.proofs.SealFacts.{opened_meets, opened_plan, IsOpened}
use Rattle.luks2_edit_laws.proofs.VolumeFacts.{copy_meta, HasCopy, IsLayout}

-- the keyslot that an addition makes is one
pub one_new : (j : Value) (to : Option ℕ) (a b : ℕ) → IsNewKeyslot j to a → IsNewKeyslot j to b → a ≡ b
one_new j (Some t) a b x y = x ∙ sym y
one_new j None a b x y = let low : a ≤ b = x.least b y.free in let high : b ≤ a = y.least a x.free in omega (arith, low, high)

-- what a made keyslot says
like_made : (allowed : Allowed) (d from f : Value) (new : NewMembers) (s : SlotMembers) → from ≡ d → f ≡ slot_value s → IsMadeFrom from new s → SaysMembers s (slot_value s) → 8 ≤ length new.salt
    → asked_beyond allowed.memory new.derivation ≡ false → SaysLike allowed d f
like_made allowed d from f new s was is made says long within = record {
  derived = λ a b hash x y splitter.
      subst (λ h. OpensAlike allowed h a b) (some_same s.splitter_hash hash (sym made.splitter_hash ∙ ap (λ o. text_of (member_at o outer.Af name.Hash)) was ∙ splitter))
      (made_derived_or allowed from (slot_value s) s.splitter_hash s.salt says.salt (rw made.salt long) new.derivation.iterations new.derivation.chosen s.derivation a b within made.derivation says.derivation
      (subst (λ v. IsLuks2Derivation v a) (sym was) x) (subst (λ v. IsLuks2Derivation v b) is y));
  sealing = record {
    encryption = ap (λ x. text_of (member_at x outer.Area name.Encryption)) is ∙ says.encryption ∙ sym made.encryption
        ∙ ap (λ x. text_of (member_at x outer.Area name.Encryption)) was;
    area_key = ap (λ x. number_in 1 128 (member_at x outer.Area name.KeySize)) is ∙ says.area_key_size ∙ sym made.area_key_size
        ∙ ap (λ x. number_in 1 128 (member_at x outer.Area name.KeySize)) was;
    splitter = ap (λ x. text_of (member_at x outer.Af name.Hash)) is ∙ says.splitter_hash ∙ sym made.splitter_hash
        ∙ ap (λ x. text_of (member_at x outer.Af name.Hash)) was;
  };
}

-- what a changed keyslot says
like_changed : (allowed : Allowed) (d was f now : Value) (new : NewMembers) → was ≡ d → f ≡ now → SaysNew new was now → 8 ≤ length new.salt → asked_beyond allowed.memory new.derivation ≡ false
    → SaysLike allowed d f
like_changed allowed d was f now new old is says long within = record {
  derived = λ a b hash x y splitter.
      changed_derived_or allowed new was now hash says.salt long
      (ap (λ a. text_of (option_and_then (get (codes "hash")) a)) (says.members (codes "af") refl) ∙ ap (λ x. text_of (member_at x outer.Af name.Hash)) old ∙ splitter) new.derivation.chosen a b within
      says.derivation (subst (λ v. IsLuks2Derivation v a) (sym old) x) (subst (λ v. IsLuks2Derivation v b) is y);
  sealing = record {
    encryption = ap (λ x. text_of (member_at x outer.Area name.Encryption)) is ∙ ap text_of (says.area (codes "encryption") refl)
        ∙ ap (λ x. text_of (member_at x outer.Area name.Encryption)) old;
    area_key = ap (λ x. number_in 1 128 (member_at x outer.Area name.KeySize)) is ∙ ap (number_in 1 128) (says.area (codes "key_size") refl)
        ∙ ap (λ x. number_in 1 128 (member_at x outer.Area name.KeySize)) old;
    splitter = ap (λ x. text_of (member_at x outer.Af name.Hash)) is ∙ ap (λ a. text_of (option_and_then (get (codes "hash")) a)) (says.members (codes "af") refl)
        ∙ ap (λ x. text_of (member_at x outer.Af name.Hash)) old;
  };
}

module _
    (kind : SecretKind) (allowed : Allowed) (v w : List ℕ) (payload : Data) (o p h : ℕ) (j k : Value) (opener n : ℕ)
    (old new key random : List ℕ) (m : HasMetadata v o j) (opened : AnswersTo kind allowed v opener old (opens key)) (before : HasCopy v o h j)
    (was : IsLayout h (length v) payload j) (after : HasCopy w p h k) (layout : IsLayout h (length w) payload k) (y : HoldsKey w k n new key random)
  where
    abbrev plan_of : IsOpened allowed v o j opener
    plan_of = opened_plan kind allowed v o j opener old key m opened

    meets : meets_digest (opened_plan kind allowed v o j opener old key m opened).plan.digest key ≡ true
    meets = opened_meets kind allowed v o j opener old key m opened

    opens_by : SaysLike allowed (opened_plan kind allowed v o j opener old key m opened).object y.object
        → ((number : ℕ) → IsDigestOf j opener number → IsDigestOf k n number) → KeepsRest n j k → AnswerWithin allowed w n new (opens key)
    opens_by like names rest =
        let dx : IsLuks2Digest j opener plan_of.plan.digest = plan_of.is.digest in
        let now = rest.digests.there dx.number dx.object dx.there in
        holds_opens allowed w payload p h k n new key random plan_of.plan.digest meets after layout y
        (λ plan is same. sym (alike_refusal allowed plan_of.plan plan like plan_of.refused plan_of.is is same.hash) ∙ plan_of.refused)
        (λ a b. one_digest (json_at w p) k (copy_meta w p h k after layout.held) n a b)
        (digest_moves j k opener n plan_of.plan.digest dx now.0 (names dx.number dx.names) now.1 now.2)

    -- a keyslot that was made
    pub made_opens : (f : NewMembers) (s : SlotMembers) (digest : ℕ) (from : Value) → object_at j Keyslots opener ≡ Some from → IsMadeFrom from f s
        → IsDigestOf j opener digest → SaysMembers s (slot_value s) → 8 ≤ length f.salt → asked_beyond allowed.memory f.derivation ≡ false → GainsSlot n digest s j k → AnswerWithin allowed w n new (opens key)
    made_opens f s digest from there made names says long within gains =
        opens_by
        (like_made allowed plan_of.object from y.object f s (some_same from plan_of.object (sym there ∙ plan_of.there))
        (some_same y.object (slot_value s) (sym y.there.is ∙ gains.there)) made says long within)
        (λ number is. subst (IsDigestOf k n) (one_digest (json_at v o) j (copy_meta v o h j before was.held) opener digest number names is) gains.names)
        gains.rest

    -- a keyslot that was sealed again
    pub changed_opens : (f : NewMembers) → opener ≡ n → 8 ≤ length f.salt → asked_beyond allowed.memory f.derivation ≡ false
        → ChangesSlot n f j k → AnswerWithin allowed w n new (opens key)
    changed_opens f same long within c =
        let there : object_at j Keyslots opener ≡ Some c.was = ap (object_at j Keyslots) same ∙ c.there.is in
        opens_by
        (like_changed allowed plan_of.object c.was y.object (renewed_slot f c.was) f (some_same c.was plan_of.object (sym there ∙ plan_of.there))
        (some_same y.object (renewed_slot f c.was) (sym y.there.is ∙ c.is)) c.says long within)
        (λ number is. (c.naming n number).0 (subst (λ q. IsDigestOf j q number) same is))
        c.rest
