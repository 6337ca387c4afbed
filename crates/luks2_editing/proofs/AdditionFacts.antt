-- A keyslot that is added to a LUKS2 volume: what its metadata says, and what the addition leaves.
use Rattle.std.proofs.Common.{◌≡◌, ℕ, ◌<◌, ◌≤◌, Bor, List, length, codes, Bool, true, false, Option, Some, None, inl, inr, refl, sym, ap, ◌∙◌, subst}
use Rattle.std.proofs.lemmas.Bool.{false≢true}
use Rattle.std.proofs.lemmas.Option.{same_Some}
use Rattle.serde_json.specs.Data.{Data as Value}
use Rattle.luks_area.specs.declared.area.Area.{Area}
use Rattle.luks_area.specs.Ranges.{IsOfEither}
use Rattle.luks_area.proofs.RangeFacts.{same_but-wider}
use Rattle.luks2_header.specs.Header2.{header_at, hdr_size}
use Rattle.luks_rules.specs.declared.table.Outer.TheVariants as outer
use Rattle.luks_rules.specs.Reading.{number_in}
use Rattle.luks_rules.specs.Sizes.{inside_at}
use Rattle.luks_making.specs.declared.derivation.AskedDerivation.{AskedDerivation}
use Rattle.luks_making.specs.declared.derivation.NewDerivation.{NewDerivation}
use Rattle.luks_making.specs.Derivations.{asked_beyond, beyond, chosen_beyond}
use Rattle.luks_making.specs.Keyslots.{slot_value, NewMembers}
use Rattle.luks_making.specs.Naming.{IsDigestOf}
use Rattle.luks_meta.specs.Content.{content}
use Rattle.luks_meta.proofs.Namings.{one_digest}
use Rattle.luks_slot.specs.declared.allowed.Allowed.{Allowed}
use Rattle.luks_slot.specs.declared.fault.SlotFault.{SlotFault}
use Rattle.luks_reading.specs.declared.header.ChosenCopy.{ChosenCopy}
use Rattle.luks_reading.specs.declared.report.Data.{Data}
use Rattle.luks_reading.specs.Checked.{WellFormed}
use Rattle.luks_reading.specs.Header.{json_at, IsChosenCopy}
use Rattle.luks_edit.specs.declared.deed.Deed.{Deed}
use Rattle.luks_edit.specs.declared.deed.Deed.TheVariants as deed
use Rattle.luks_edit.specs.declared.deed.Deed.TheVariants.{Seal}
use Rattle.luks_edit.specs.declared.deed.Place.TheVariants.{New}
use Rattle.luks_edit.specs.declared.edit.Edit.{Edit}
use Rattle.luks_edit.specs.declared.edit.Edit.TheVariants.{Add, AddByKey, Change, Remove, Erase, Repair, Label, Uuid, Amend}
use Rattle.luks_edit.specs.declared.edit.Opener.{Opener}
use Rattle.luks_edit.specs.declared.edit.Opener.TheVariants as opener
use Rattle.luks_edit.specs.declared.edit.Secret.{Secret}
use Rattle.luks_edit.specs.declared.edit.VolumeKey.{VolumeKey}
use Rattle.luks_edit.specs.Asked.{allowed_for, chosen_or, deed_of, opener_at}
use Rattle.luks2_edit_laws.specs.declared.like.Like.{Like}
use Rattle.luks2_edit_laws.specs.declared.like.Like.TheVariants.{Keyslot, Digest}
use Rattle.luks2_edit_laws.specs.Edited.{keyslot_salt, members_of, stripes_random, After2, Gives2, HoldsKey, IsEdited, IsMadeIn, IsOwnKey, IsSealedBy}
use Rattle.luks2_edit_laws.specs.Likes.{fresh_members, HasStripesLike, IsLike, IsLikeByKey, slot_by}
use Rattle.luks2_edit_laws.specs.Metadata.{HasStripes, IsNewKeyslot}
use Rattle.luks2_edit_laws.specs.Places.{IsNewArea, IsOfCopies, IsOfNewKeyslot, IsOfSealed, IsTouched}
use Rattle.luks2_edit_laws.proofs.AfterFacts.{new_offset, new_size}
use Rattle.luks2_edit_laws.proofs.AlikeFacts.{made_derived_or, OpensAlike, SaysLike}
use Rattle.luks2_edit_laws.proofs.OpenFacts.{one_plan}
use Rattle.luks2_edit_laws.proofs.OwnFacts.{own_accepted, own_fine, own_told}
use Rattle.luks2_edit_laws.proofs.SealFacts.{opened_plan, IsOpened}
use Rattle.luks2_edit_laws.proofs.VolumeFacts.{copy_of, layout_of}
use Rattle.luks2_judging.specs.Judging.{sealing}
use Rattle.luks2_judging.specs.Rows.{HasNoFaultBefore}
use Rattle.luks2_judging.specs.declared.judged.Addition.{Addition}
use Rattle.luks2_judging.proofs.KeyAreaFacts.{area_of_object}
use Rattle.luks2_editing.specs.declared.sealed_metadata.SealedSlot.TheVariants.{Made}
use Rattle.luks2_editing.specs.declared.sealed_metadata.Sealing.{Sealing}
use Rattle.luks2_editing.specs.MadeMetadata.{IsGained, IsSealingEdit}
use Rattle.luks2_editing.specs.SealedKeyslot.{HasRefusedKeyslot, IsKeyslotWritten, IsOfStripesOf, IsSealing}
use Rattle.luks2_editing.proofs.NewKeyslotFacts.{alike_place, SealsLike}
use Rattle.luks2_editing.proofs.PlanFacts.{like_unrefused, long_salt}
use Rattle.luks2_editing.proofs.RenewalFacts.{metadata_here}

-- ---- the new keyslot, made like this one

-- one that is made with the members of another
module _ (j k : Value) (slot by_ : ℕ) (derivation : AskedDerivation) (salt : List ℕ) (area : Area) (x : IsGained slot (Keyslot by_) (members_of derivation salt area) j k) (small : slot < 32) where
  -- its key and stripes are those of the other
  like_stripes : (a b : ℕ) → HasStripes j by_ a b → HasStripes k slot a b
  like_stripes a b s =
      let from : s.object ≡ x.added.from = same_Some s.object x.added.from (sym s.there.is ∙ x.added.there.is) in
      let key : a ≡ x.added.slot.key_size = same_Some a x.added.slot.key_size
      (sym s.key_bytes_are ∙ ap (λ d. number_in 1 128 (inside_at outer.Top (codes "key_size") d)) from ∙ x.added.made.key_size) in
      let stripes : b ≡ x.added.slot.stripes = same_Some b x.added.slot.stripes
      (sym s.stripes_are ∙ ap (λ d. number_in 1 4294967295 (inside_at outer.Af (codes "stripes") d)) from ∙ x.added.made.stripes) in
      record {
        object = slot_value x.added.slot;
        there = record { numbered = refl; named = small; is = x.gains.there };
        key_bytes_are = x.says.key_size ∙ ap Some (sym key);
        stripes_are = x.says.stripes ∙ ap Some (sym stripes);
      }

  -- it says of its opening what the other says
  made_like : (allowed : Allowed) → 8 ≤ length salt → asked_beyond allowed.memory derivation ≡ false → SaysLike allowed x.added.from (slot_value x.added.slot)
  made_like allowed long within = record {
    derived = λ a b hash was now splitter.
        subst (λ h. OpensAlike allowed h a b) (same_Some x.added.slot.splitter_hash hash (sym x.added.made.splitter_hash ∙ splitter))
        (made_derived_or allowed x.added.from (slot_value x.added.slot) x.added.slot.splitter_hash x.added.slot.salt x.says.salt (rw x.added.made.salt long) derivation.iterations derivation.chosen
        x.added.slot.derivation a b within x.added.made.derivation x.says.derivation was now);
    sealing = record {
      encryption = x.says.encryption ∙ sym x.added.made.encryption;
      area_key = x.says.area_key_size ∙ sym x.added.made.area_key_size;
      splitter = x.says.splitter_hash ∙ sym x.added.made.splitter_hash;
    };
  }

  -- where the other was opened, its plan isn't refused
  made_unrefused : {allowed : Allowed} {v : List ℕ} {o : ℕ} (g : SlotFault) → 8 ≤ length salt → asked_beyond allowed.memory derivation ≡ false → IsOpened allowed v o j by_
      → ((n m : ℕ) → IsDigestOf j by_ n → IsDigestOf j by_ m → n ≡ m) → HasRefusedKeyslot allowed k slot g → ⊥
  made_unrefused {allowed} g long within open_ once bad =
      let was : open_.object ≡ x.added.from = same_Some open_.object x.added.from (sym open_.there ∙ x.added.there.is) in
      let now : bad.object ≡ slot_value x.added.slot = same_Some bad.object (slot_value x.added.slot) (sym bad.there.is ∙ x.gains.there) in
      like_unrefused j k by_ slot g open_ bad
      (subst (λ d. SaysLike allowed d bad.object) (sym was) (subst (λ d. SaysLike allowed x.added.from d) (sym now) (made_like allowed long within)))
      (λ m names. subst (λ i. IsDigestOf k slot i) (once x.added.digest m x.added.names names) x.gains.names)
      x.gains.rest.digests

-- one that is made as a new volume has it
fresh_stripes : (j k : Value) (slot number key_bytes : ℕ) (f : NewMembers) → IsGained slot (Digest number key_bytes) f j k → slot < 32
    → (a b : ℕ) → (a ≡ key_bytes) × (b ≡ 4000) → HasStripes k slot a b
fresh_stripes j k slot number key_bytes f x small a b s = record {
  object = slot_value (fresh_members key_bytes f);
  there = record { numbered = refl; named = small; is = x.gains.there };
  key_bytes_are = x.says.key_size ∙ ap Some (sym s.0);
  stripes_are = x.says.stripes ∙ ap Some (sym s.1);
}

made_stripes : (j k : Value) (slot : ℕ) (like : Like) (derivation : AskedDerivation) (salt : List ℕ) (area : Area) → IsGained slot like (members_of derivation salt area) j k → slot < 32
    → (a b : ℕ) → HasStripesLike j like a b → HasStripes k slot a b
made_stripes j k slot (Keyslot by_) derivation salt area x small a b s = like_stripes j k slot by_ derivation salt area x small a b s
made_stripes j k slot (Digest number key_bytes) derivation salt area x small a b s = fresh_stripes j k slot number key_bytes (members_of derivation salt area) x small a b s

-- its stripes are those, and its area is the one that was found for it
pub made_alike : (j k : Value) (slot : ℕ) (like : Like) (derivation : AskedDerivation) (salt : List ℕ) (area : Area) → IsGained slot like (members_of derivation salt area) j k → slot < 32
    → SealsLike j k like slot area
made_alike j k slot like derivation salt area x small =
    let f : NewMembers = members_of derivation salt area in
    record {
      stripes = made_stripes j k slot like derivation salt area x small;
      place = area_of_object k (slot_value (slot_by slot like f j k x.added)) slot area.start area.len small x.gains.there
          (x.says.offset ∙ ap Some (new_offset slot like f j k x.added)) (x.says.size ∙ ap Some (new_size slot like f j k x.added));
    }

-- ---- the addition to a volume

-- its rows up to that of the label were judged
pub record IsJudgedAddition (v : List ℕ) (payload : Data) (copy : ChosenCopy) (addition : Addition) (e : Edit) (o : Opener) (new : Bor (List ℕ)) (to : Option ℕ) (key random : List ℕ) : Type 0 where
  pub chosen : IsChosenCopy v copy
  pub well : WellFormed v payload
  pub asked : deed_of e ≡ Seal (sealing (New o to) new addition.derivation)
  pub before : HasNoFaultBefore 20 v payload e random
  pub opened : Gives2 (allowed_for o new.now) v o key
  pub is_like : IsLike (content copy.meta) o addition.like
  pub is_new : IsNewKeyslot (content copy.meta) to addition.made
  pub place : IsNewArea (hdr_size (header_at v copy.header.hdr_offset)) (length v) payload (content copy.meta) addition.like addition.area

-- what it seals
abbrev pub sealing_of : Addition → Sealing
sealing_of a = record { keyslot = Made a.made a.like; derivation = a.derivation; area = a.area }

module _ (v : List ℕ) (payload : Data) (copy : ChosenCopy) (addition : Addition) (e : Edit) (o : Opener) (new : Bor (List ℕ)) (to : Option ℕ) (key random : List ℕ)
    (x : IsJudgedAddition v payload copy addition e o new to key random) where
  pub addition_seals : IsSealingEdit v payload e random copy (sealing_of addition)
  addition_seals = record {
    chosen = x.chosen;
    well = x.well;
    before = x.before;
    asked = rw x.asked (x.is_like, refl, x.is_new);
    place = x.place;
    key = key;
    opened = rw x.asked x.opened;
  }

  module _ (small : addition.made < 32) (k : Value)
      (gained : IsGained addition.made addition.like (members_of addition.derivation (keyslot_salt random) addition.area) (content copy.meta) k) where
    place_in : (p : ℕ) → IsOfStripesOf k addition.made p
        → IsOfNewKeyslot (hdr_size (header_at v copy.header.hdr_offset)) (length v) payload (content copy.meta) p addition.like
    place_in p at = alike_place (content copy.meta) k addition.like addition.made addition.area
        (made_alike (content copy.meta) k addition.made addition.like addition.derivation (keyslot_salt random) addition.area gained small)
        (hdr_size (header_at v copy.header.hdr_offset)) (length v) payload p x.place at

    sealed_place : (p : ℕ) → IsOfStripesOf k addition.made p → IsOfSealed (hdr_size (header_at v copy.header.hdr_offset)) (length v) payload (content copy.meta) e p
    sealed_place p at = rw x.asked (record { like = addition.like; is_like = x.is_like; has = place_in p at })

    sealed_in : (w : List ℕ) → HoldsKey w k addition.made new.now key (stripes_random random) → IsSealedBy v e random (content copy.meta) w k
    sealed_in w holds = rw x.asked (record { slot = addition.made; is_made = x.is_new; key = key; opened = x.opened; holds = holds })

    pub addition_sealing : IsSealing v payload e random copy.header.hdr_offset (content copy.meta) k addition.made new.now key
    addition_sealing = record { sealed = sealed_in; place = sealed_place }

    -- its plan isn't refused: where a keyslot was opened, as that one's isn't
    keyslot_fine : (slot : ℕ) (secret : Secret) → Gives2 (allowed_for (opener.Keyslot slot secret) new.now) v (opener.Keyslot slot secret) key
        → IsGained addition.made (Keyslot slot) (members_of addition.derivation (keyslot_salt random) addition.area) (content copy.meta) k
        → 160 ≤ length random → asked_beyond (allowed_for (opener.Keyslot slot secret) new.now).memory addition.derivation ≡ false
        → (g : SlotFault) → HasRefusedKeyslot (allowed_for (opener.Keyslot slot secret) new.now) k addition.made g → ⊥
    keyslot_fine slot secret opened made enough within g bad =
        made_unrefused (content copy.meta) k addition.made slot addition.derivation (keyslot_salt random) addition.area made small g (long_salt random enough) within
        (opened_plan secret.kind (allowed_for (opener.Keyslot slot secret) new.now) v copy.header.hdr_offset (content copy.meta) slot secret.bytes.now key
        (metadata_here v payload copy x.chosen x.well) opened)
        (one_digest (json_at v copy.header.hdr_offset) (content copy.meta) x.chosen.metadata slot) bad

    -- by the volume key, as that of what it is made like isn't
    key_fine : (own : VolumeKey) (c : NewDerivation) → addition.derivation.chosen ≡ Some c → IsOwnKey own.allowed.older v own.bytes.now → IsLikeByKey own.allowed.older (content copy.meta) own.bytes.now addition.like
        → 160 ≤ length random → beyond (allowed_for (opener.Key own) new.now).memory c ≡ false
        → (g : SlotFault) → HasRefusedKeyslot (allowed_for (opener.Key own) new.now) k addition.made g → ⊥
    key_fine own c chosen owns is_like enough within g bad =
        let j : Value = content copy.meta in
        let h : ℕ = hdr_size (header_at v copy.header.hdr_offset) in
        let m = metadata_here v payload copy x.chosen x.well in
        let f : NewMembers = members_of addition.derivation (keyslot_salt random) addition.area in
        let before = copy_of v payload copy.header.hdr_offset j m x.well in
        let was = layout_of v payload copy.header.hdr_offset j m x.well in
        let accepted = own_accepted own.allowed.older v own.bytes.now copy.header.hdr_offset j addition.like m owns is_like in
        let told = own_told (allowed_for (opener.Key own) new.now) v copy.header.hdr_offset h payload j k addition.made own.bytes.now before was f c chosen (long_salt random enough) within
        addition.like is_like accepted gained.added gained.gains gained.says in
        let digests = one_plan k addition.made is_like.is.meets.digest bad.plan.digest (λ n l a b. bad.one n a ∙ sym (bad.one l b)) told bad.is.digest in
        let fine = own_fine (allowed_for (opener.Key own) new.now) v copy.header.hdr_offset h payload j k addition.made own.bytes.now before was f c chosen (long_salt random enough) within
        addition.like is_like accepted gained.added gained.gains gained.says bad.object
        (same_Some bad.object (slot_value (slot_by addition.made addition.like f j k gained.added)) (sym bad.there.is ∙ gained.gains.there)) bad.plan bad.is digests in
        absurd (let both : None ≡ Some g = sym fine ∙ bad.refused in cc)

    module _ (edited : IsEdited (hdr_size (header_at v copy.header.hdr_offset)) (length v) payload e (keyslot_salt random) (content copy.meta) k) (w : List ℕ) where
      touched : (p : ℕ) → IsOfEither (IsOfStripesOf k addition.made) (IsOfCopies (hdr_size (header_at v copy.header.hdr_offset))) p
          → IsTouched (hdr_size (header_at v copy.header.hdr_offset)) (length v) payload (content copy.meta) e p
      touched p (inl at) = inr (inl (sealed_place p at))
      touched p (inr at) = inl at

      -- what it leaves where it was done
      pub added_after : IsKeyslotWritten v copy.header.hdr_offset e random k addition.made new.now key w → After2 v payload e random w
      added_after written = record {
        place = copy.header.hdr_offset;
        value = content copy.meta;
        metadata = metadata_here v payload copy x.chosen x.well;
        new = k;
        edited = edited;
        first = written.anew.first;
        second = written.anew.second;
        sealed = sealed_in w written.holds;
        wiped = λ n lost. absurd (rw x.asked at lost);
        rest = same_but-wider touched written.rest;
      }

      -- the keyslot is the one that was to be made
      pub made_in : IsMadeIn v to addition.made
      made_in = record {
        place = copy.header.hdr_offset;
        value = content copy.meta;
        metadata = metadata_here v payload copy x.chosen x.well;
        is_new = x.is_new;
      }

-- what gives the key of a deed, and the derivation that it chooses
abbrev is_key : Opener → Bool
is_key (opener.Keyslot slot secret) = false
is_key (opener.Key key) = true

abbrev is_keyed : Deed → Bool
is_keyed (Seal s) = is_key (opener_at s.place)
is_keyed (deed.Remove r) = false
is_keyed (deed.Rewrite r) = false
is_keyed deed.Erase = false

abbrev chosen_in : Deed → Option NewDerivation
chosen_in (Seal s) = s.derivation.chosen
chosen_in (deed.Remove r) = None
chosen_in (deed.Rewrite r) = None
chosen_in deed.Erase = None

-- an edit by the volume key chooses a derivation
key_chooses : (e : Edit) (own : VolumeKey) (to : Option ℕ) (new : Bor (List ℕ)) (asked : AskedDerivation) → deed_of e ≡ Seal (sealing (New (opener.Key own) to) new asked)
    → (c : NewDerivation) × (asked.chosen ≡ Some c)
key_chooses (Add by_ old passphrase at iterations chosen) own to new asked is = absurd (false≢true (ap is_keyed is))
key_chooses (AddByKey key passphrase at iterations chosen) own to new asked is = (chosen_or iterations chosen, sym (ap chosen_in is))
key_chooses (Change slot old passphrase iterations chosen) own to new asked is = absurd (false≢true (ap is_keyed is))
key_chooses (Remove slot by_ secret) own to new asked is = absurd (false≢true (ap is_keyed is))
key_chooses Erase own to new asked is = absurd (false≢true (ap is_keyed is))
key_chooses Repair own to new asked is = absurd (false≢true (ap is_keyed is))
key_chooses (Label text subsystem) own to new asked is = absurd (false≢true (ap is_keyed is))
key_chooses (Uuid uuid) own to new asked is = absurd (false≢true (ap is_keyed is))
key_chooses (Amend c) own to new asked is = absurd (false≢true (ap is_keyed is))

-- the plan of the new keyslot isn't refused
pub addition_fine : (v : List ℕ) (payload : Data) (copy : ChosenCopy) (addition : Addition) (e : Edit) (o : Opener) (new : Bor (List ℕ)) (to : Option ℕ) (key random : List ℕ)
    → IsJudgedAddition v payload copy addition e o new to key random → addition.made < 32 → (k : Value)
    → IsGained addition.made addition.like (members_of addition.derivation (keyslot_salt random) addition.area) (content copy.meta) k
    → 160 ≤ length random → asked_beyond (allowed_for o new.now).memory addition.derivation ≡ false → (g : SlotFault) → HasRefusedKeyslot (allowed_for o new.now) k addition.made g → ⊥
addition_fine v payload copy addition e (opener.Keyslot slot secret) new to key random x small k gained enough within g bad =
    keyslot_fine v payload copy addition e (opener.Keyslot slot secret) new to key random x small k gained slot secret x.opened
    (subst (λ l. IsGained addition.made l (members_of addition.derivation (keyslot_salt random) addition.area) (content copy.meta) k) x.is_like gained) enough within g bad
addition_fine v payload copy addition e (opener.Key own) new to key random x small k gained enough within g bad =
    let c = key_chooses e own to new addition.derivation x.asked in
    key_fine v payload copy addition e (opener.Key own) new to key random x small k gained own c.0 c.1 x.opened.1 x.is_like enough
    (subst (λ d. chosen_beyond (allowed_for (opener.Key own) new.now).memory d ≡ false) c.1 within) g bad
