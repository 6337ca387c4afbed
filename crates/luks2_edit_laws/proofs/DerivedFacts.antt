-- The keyslot of an edit that was completed derives as is asked.
use Rattle.std.proofs.Common.{◌≡◌, ℕ, List, length, Option, Some, None, refl, sym, ap, subst, ◌∙◌}
use Rattle.serde_json.specs.Data.{Data as Value}
use Rattle.luks2_header.specs.Header2.{hdr_size, header_at}
use Rattle.luks_rules.specs.declared.table.Outer.TheVariants as outer
use Rattle.luks_rules.specs.declared.table.Section.TheVariants.{Keyslots}
use Rattle.luks_rules.specs.Faults.{object_at, outer_at}
use Rattle.luks_making.specs.Changed.{renewed_slot}
use Rattle.luks_making.specs.declared.derivation.AskedDerivation.{AskedDerivation}
use Rattle.luks_making.specs.declared.derivation.NewDerivation.{NewDerivation}
use Rattle.luks_making.specs.Keyslots.{derivation_by, IsDerivedOr, kdf_value, NewMembers, slot_value, SlotMembers}
use Rattle.luks_making.specs.Unchanged.{SaysAsked, SaysChosen, SaysDerivation, SaysMembers}
use Rattle.luks_slot.specs.declared.allowed.Allowed.{Allowed}
use Rattle.luks_reading.specs.declared.report.Data.{Data}
use Rattle.luks_reading.specs.Checked.{WellFormed}
use Rattle.luks_edit.specs.declared.deed.Place.TheVariants.{New, Opened}
use Rattle.luks_edit.specs.declared.edit.Edit.{Edit}
use Rattle.luks_edit.specs.declared.edit.Edit.TheVariants.{Add, AddByKey, Change, Remove, Erase, Repair, Label, Uuid, Amend}
use Rattle.luks_edit.specs.declared.edit.Opener.{Opener}
use Rattle.luks_edit.specs.declared.edit.Opener.TheVariants as opener
use Rattle.luks_edit.specs.declared.edit.Secret.{Secret}
use Rattle.luks_edit.specs.Asked.{allowed_for, chosen_or}
use Rattle.luks_edit.specs.declared.edit_fault.EditFault.TheVariants.{NoFreeSlot, SlotTaken}
use Rattle.luks2_edit_laws.specs.declared.like.Like.{Like}
use Rattle.luks2_edit_laws.specs.declared.like.Like.TheVariants.{Keyslot}
use Rattle.luks2_edit_laws.specs.Derived.{DerivesAs, IsDerivedBy}
use Rattle.luks2_edit_laws.specs.Edited.{keyslot_salt, members_of, After2, HasAdded, HasRanges}
use Rattle.luks2_edit_laws.specs.Likes.{slot_by}
use Rattle.luks2_edit_laws.specs.Metadata.{IsNewKeyslot}
use Rattle.luks2_edit_laws.specs.Refused.{HasNoNumber, IsNumberTaken, IsUnrefused2}
use Rattle.luks2_edit_laws.proofs.AfterFacts.{added_gained, asking, before, changed_changes, layout, model_by, new_derivation, new_salt, ready_by}
use Rattle.luks2_edit_laws.proofs.LikeFacts.{for_like}
use Rattle.luks2_edit_laws.proofs.MetadataFacts.{some_same}
use Rattle.luks2_edit_laws.proofs.OpenedFacts.{one_new}
use Rattle.luks2_edit_laws.proofs.VolumeFacts.{one_metadata}

-- a keyslot that is made says its derivation and its salt, and no more of it
kdf_of : (s : SlotMembers) → outer_at (slot_value s) outer.Kdf ≡ Some (kdf_value s.derivation s.salt)
kdf_of s = refl

-- one that derives as is chosen
chosen_as : (c : NewDerivation) (salt : List ℕ) (s : SlotMembers) → s.derivation ≡ derivation_by s.splitter_hash c → s.salt ≡ salt → SaysMembers s (slot_value s) → SaysChosen c salt (slot_value s)
chosen_as c salt s is own says = record {
  hash = s.splitter_hash;
  splitter = says.splitter_hash;
  derivation = subst (λ k. SaysDerivation k (slot_value s)) is says.derivation;
  whole = kdf_of s ∙ ap (λ k. Some (kdf_value k s.salt)) is ∙ ap (λ x. Some (kdf_value (derivation_by s.splitter_hash c) x)) own;
}

-- a new keyslot
added_as : (n : ℕ) (chosen : Option NewDerivation) (salt : List ℕ) (o : Opener) (to : Option ℕ) (from : Value) (s : SlotMembers) → IsDerivedOr from n s.splitter_hash chosen s.derivation
    → s.salt ≡ salt → SaysMembers s (slot_value s) → DerivesAs (New o to) n chosen salt from (slot_value s)
added_as n None salt o to from s is own says = record { derivation = s.derivation; like = is; says = says.derivation }
added_as n (Some c) salt o to from s is own says = chosen_as c salt s is own says

-- one that is sealed again
changed_as : (slot : ℕ) (old : Secret) (f : NewMembers) (chosen : Option NewDerivation) (was now : Value) → SaysAsked f chosen was now
    → DerivesAs (Opened slot old) f.derivation.iterations chosen f.salt was now
changed_as slot old f None was now says = says
changed_as slot old f (Some c) was now says = says

module _ (v : List ℕ) (payload : Data) (random w : List ℕ) (well : WellFormed v payload) where
  pub derives : (e : Edit) → HasRanges v e random → IsUnrefused2 v payload e random → (a : After2 v payload e random w) → IsDerivedBy v e random a.value a.new
  derives (Add by_ old new to iterations d) ranges free a = λ n from o is was there.
      let e : Edit = Add by_ old new to iterations d in
      let opener_ : Opener = opener.Keyslot by_ old in
      let allowed : Allowed = allowed_for opener_ new.now in
      let asked : AskedDerivation = asking iterations d in
      let h : ℕ = hdr_size (header_at v a.place) in
      let first = before v payload e random w well ranges free a in
      let whole = layout v payload e random w well ranges free a in
      let added : HasAdded h (length v) payload to asked (keyslot_salt random) a.value a.new (Keyslot by_) =
      for_like a.value opener_ (HasAdded h (length v) payload to asked (keyslot_salt random) a.value a.new) (Keyslot by_) refl a.edited in
      let model = model_by allowed v a.place a.value opener_ a.sealed.key (Keyslot by_) a.metadata a.sealed.opened refl in
      let ready = ready_by v a.place payload e random a.value a.metadata ranges free _ refl (Keyslot by_) refl model in
      let taken = λ (x : IsNumberTaken a.value to). free.none SlotTaken (record { place = a.place; value = a.value; metadata = a.metadata; is = x }) in
      let none = λ (x : HasNoNumber a.value to). free.none NoFreeSlot (record { place = a.place; value = a.value; metadata = a.metadata; is = x }) in
      let g = added_gained allowed v a.place h payload random a.value a.new first whole (Keyslot by_) asked ready to taken none added in
      let value : is.value ≡ a.value = one_metadata v a.place is.place a.metadata.copies is.metadata.copies a.value is.value
      a.metadata.chosen a.metadata.holds is.metadata.chosen is.metadata.holds in
      let here : IsNewKeyslot a.value to n = subst (λ j. IsNewKeyslot j to n) value is.is_new in
      let slot : added.slot ≡ n = one_new a.value to added.slot n added.is_new here in
      let object : slot_value added.is.slot ≡ o = some_same (slot_value added.is.slot) o (sym g.gains.there ∙ ap (object_at a.new Keyslots) slot ∙ there.is) in
      let opened : added.is.from ≡ from = some_same added.is.from from (sym added.is.there.is ∙ was.is) in
      subst (λ x. DerivesAs (New opener_ to) iterations d (keyslot_salt random) from x) object
      (subst (λ x. DerivesAs (New opener_ to) iterations d (keyslot_salt random) x (slot_value added.is.slot)) opened
      (added_as iterations d (keyslot_salt random) opener_ to added.is.from added.is.slot added.is.made.derivation added.is.made.salt g.says))
  derives (AddByKey own new to iterations d) ranges free a = λ n o is there.
      let e : Edit = AddByKey own new to iterations d in
      let opener_ : Opener = opener.Key own in
      let allowed : Allowed = allowed_for opener_ new.now in
      let c : NewDerivation = chosen_or iterations d in
      let asked : AskedDerivation = asking iterations (Some c) in
      let h : ℕ = hdr_size (header_at v a.place) in
      let first = before v payload e random w well ranges free a in
      let whole = layout v payload e random w well ranges free a in
      let like : Like = a.edited.like in
      let added : HasAdded h (length v) payload to asked (keyslot_salt random) a.value a.new like = a.edited.has in
      let model = model_by allowed v a.place a.value opener_ a.sealed.key like a.metadata a.sealed.opened a.edited.is_like in
      let ready = ready_by v a.place payload e random a.value a.metadata ranges free _ refl like a.edited.is_like model in
      let taken = λ (x : IsNumberTaken a.value to). free.none SlotTaken (record { place = a.place; value = a.value; metadata = a.metadata; is = x }) in
      let none = λ (x : HasNoNumber a.value to). free.none NoFreeSlot (record { place = a.place; value = a.value; metadata = a.metadata; is = x }) in
      let g = added_gained allowed v a.place h payload random a.value a.new first whole like asked ready to taken none added in
      let f : NewMembers = members_of asked (keyslot_salt random) added.area in
      let s : SlotMembers = slot_by added.slot like f a.value a.new added.is in
      let value : is.value ≡ a.value = one_metadata v a.place is.place a.metadata.copies is.metadata.copies a.value is.value
      a.metadata.chosen a.metadata.holds is.metadata.chosen is.metadata.holds in
      let here : IsNewKeyslot a.value to n = subst (λ j. IsNewKeyslot j to n) value is.is_new in
      let slot : added.slot ≡ n = one_new a.value to added.slot n added.is_new here in
      let object : slot_value s ≡ o = some_same (slot_value s) o (sym g.gains.there ∙ ap (object_at a.new Keyslots) slot ∙ there.is) in
      subst (SaysChosen c (keyslot_salt random)) object
      (chosen_as c (keyslot_salt random) s (new_derivation added.slot like f a.value a.new added.is c refl) (new_salt added.slot like f a.value a.new added.is) g.says)
  derives (Change slot old new iterations d) ranges free a = λ n from o is was there.
      let e : Edit = Change slot old new iterations d in
      let opener_ : Opener = opener.Keyslot slot old in
      let allowed : Allowed = allowed_for opener_ new.now in
      let asked : AskedDerivation = asking iterations d in
      let h : ℕ = hdr_size (header_at v a.place) in
      let first = before v payload e random w well ranges free a in
      let whole = layout v payload e random w well ranges free a in
      let model = model_by allowed v a.place a.value opener_ a.sealed.key (Keyslot slot) a.metadata a.sealed.opened refl in
      let ready = ready_by v a.place payload e random a.value a.metadata ranges free _ refl (Keyslot slot) refl model in
      let c = changed_changes allowed v a.place h payload random a.value a.new first whole slot asked ready a.edited in
      let f : NewMembers = members_of asked (keyslot_salt random) a.edited.area in
      let object : renewed_slot f c.was ≡ o = some_same (renewed_slot f c.was) o (sym c.is ∙ ap (object_at a.new Keyslots) (sym is) ∙ there.is) in
      let opened : c.was ≡ from = some_same c.was from (sym c.there.is ∙ was.is) in
      subst (λ x. DerivesAs (Opened slot old) iterations d (keyslot_salt random) from x) object
      (subst (λ x. DerivesAs (Opened slot old) iterations d (keyslot_salt random) x (renewed_slot f c.was)) opened
      (changed_as slot old f d c.was (renewed_slot f c.was) c.says.derivation))
  derives (Remove slot by_ passphrase) ranges free a = tt
  derives Erase ranges free a = tt
  derives Repair ranges free a = tt
  derives (Label text subsystem) ranges free a = tt
  derives (Uuid uuid) ranges free a = tt
  derives (Amend c) ranges free a = tt
