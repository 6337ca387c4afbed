-- The keyslot of an edit that was completed opens by its new passphrase.
use Rattle.std.proofs.Common.{◌≡◌, ℕ, List, length, Some, refl, sym, subst}
use Rattle.luks2_header.specs.Header2.{hdr_size, header_at}
use Rattle.luks_making.specs.declared.derivation.AskedDerivation.{AskedDerivation}
use Rattle.luks_making.specs.declared.derivation.NewDerivation.{NewDerivation}
use Rattle.luks_making.specs.Unchanged.{GainsSlot}
use Rattle.luks_slot.specs.declared.allowed.Allowed.{Allowed}
use Rattle.luks_reading.specs.declared.report.Data.{Data}
use Rattle.luks_reading.specs.Answer.{opens, AnswerWithin}
use Rattle.luks_reading.specs.Checked.{WellFormed}
use Rattle.luks_edit.proofs.SecretFacts.{one_answer_to}
use Rattle.luks_edit.specs.declared.edit.Edit.{Edit}
use Rattle.luks_edit.specs.declared.edit.Edit.TheVariants.{Add, AddByKey, Change, Remove, Erase, Repair, Label, Uuid, Amend}
use Rattle.luks_edit.specs.declared.edit.Opener.{Opener}
use Rattle.luks_edit.specs.declared.edit.Opener.TheVariants as opener
use Rattle.luks_edit.specs.Asked.{allowed_for, chosen_or}
use Rattle.luks_edit.specs.declared.edit_fault.EditFault.TheVariants.{NoFreeSlot, SlotTaken}
use Rattle.luks2_edit_laws.specs.declared.like.Like.{Like}
use Rattle.luks2_edit_laws.specs.declared.like.Like.TheVariants.{Keyslot}
use Rattle.luks2_edit_laws.specs.Edited.{keyslot_salt, members_of, stripes_random, After2, HasAdded, HasRanges, HoldsKey, OpensAfter2}
use Rattle.luks2_edit_laws.specs.Metadata.{IsNewKeyslot}
use Rattle.luks2_edit_laws.specs.Refused.{HasNoNumber, IsNumberTaken, IsUnrefused2}
use Rattle.luks2_edit_laws.proofs.AfterFacts.{asking, added_gained, after, before, changed_changes, edited_metadata, layout, long_salt, model_by, ready_by, was_opened}
use Rattle.luks2_edit_laws.proofs.LikeFacts.{for_like}
use Rattle.luks2_edit_laws.proofs.OpenedFacts.{changed_opens, made_opens, one_new}
use Rattle.luks2_edit_laws.proofs.OwnFacts.{own_accepted, own_opens}
use Rattle.luks2_edit_laws.proofs.VolumeFacts.{one_metadata, IsLayout}

module _ (v : List ℕ) (payload : Data) (random w : List ℕ) (well : WellFormed v payload) where
  -- the layout of the new metadata, in the volume as long as the old one
  now : (e : Edit) (ranges : HasRanges v e random) (free : IsUnrefused2 v payload e random) (a : After2 v payload e random w)
      → IsLayout (hdr_size (header_at v a.place)) (length w) payload a.new
  now e ranges free a = subst (λ n. IsLayout (hdr_size (header_at v a.place)) n payload a.new) (sym a.rest.length_same)
      (edited_metadata v a.place payload e random a.value a.new a.metadata (before v payload e random w well ranges free a) ranges free
      (was_opened v e random a.value w a.new a.sealed) a.edited (layout v payload e random w well ranges free a)).layout

  pub opens_after : (e : Edit) → HasRanges v e random → IsUnrefused2 v payload e random → After2 v payload e random w → OpensAfter2 v e w
  opens_after (Add by_ old new to iterations d) ranges free a =
      let e : Edit = Add by_ old new to iterations d in
      let opener_ : Opener = opener.Keyslot by_ old in
      let allowed : Allowed = allowed_for opener_ new.now in
      let asked : AskedDerivation = asking iterations d in
      let h : ℕ = hdr_size (header_at v a.place) in
      let first = before v payload e random w well ranges free a in
      let was = layout v payload e random w well ranges free a in
      let added : HasAdded h (length v) payload to asked (keyslot_salt random) a.value a.new (Keyslot by_) =
      for_like a.value opener_ (HasAdded h (length v) payload to asked (keyslot_salt random) a.value a.new) (Keyslot by_) refl a.edited in
      let model = model_by allowed v a.place a.value opener_ a.sealed.key (Keyslot by_) a.metadata a.sealed.opened refl in
      let ready = ready_by v a.place payload e random a.value a.metadata ranges free _ refl (Keyslot by_) refl model in
      let taken = λ (x : IsNumberTaken a.value to). free.none SlotTaken (record { place = a.place; value = a.value; metadata = a.metadata; is = x }) in
      let none = λ (x : HasNoNumber a.value to). free.none NoFreeSlot (record { place = a.place; value = a.value; metadata = a.metadata; is = x }) in
      let g = added_gained allowed v a.place h payload random a.value a.new first was (Keyslot by_) asked ready to taken none added in
      let slot : added.slot ≡ a.sealed.slot = one_new a.value to added.slot a.sealed.slot added.is_new a.sealed.is_made in
      let opened : AnswerWithin allowed w a.sealed.slot new.now (opens a.sealed.key) =
      made_opens old.kind allowed v w payload a.place 0 h a.value a.new by_ a.sealed.slot old.bytes.now new.now a.sealed.key (stripes_random random)
      a.metadata a.sealed.opened first was (after v payload e random w well ranges free a) (now e ranges free a) a.sealed.holds
      (members_of asked (keyslot_salt random) added.area) added.is.slot added.is.digest added.is.from added.is.there.is added.is.made added.is.names
      g.says (long_salt allowed v a.place h payload random a.value a.new first was (Keyslot by_) asked ready added.area added.place) ready.within
      (subst (λ n. GainsSlot n added.is.digest added.is.slot a.value a.new) slot g.gains) in
      λ n key is by_key.
      (let value : is.value ≡ a.value = one_metadata v a.place is.place a.metadata.copies is.metadata.copies a.value is.value
      a.metadata.chosen a.metadata.holds is.metadata.chosen is.metadata.holds in
      let here : IsNewKeyslot a.value to n = subst (λ j. IsNewKeyslot j to n) value is.is_new in
      let same : a.sealed.slot ≡ n = one_new a.value to a.sealed.slot n a.sealed.is_made here in
      let key_same : a.sealed.key ≡ key = one_answer_to old.kind allowed v by_ old.bytes.now (opens a.sealed.key) (opens key) a.sealed.opened by_key in
      subst (λ k. AnswerWithin allowed w n new.now (opens k)) key_same (subst (λ q. AnswerWithin allowed w q new.now (opens a.sealed.key)) same opened))
  opens_after (AddByKey own new to iterations d) ranges free a =
      let e : Edit = AddByKey own new to iterations d in
      let opener_ : Opener = opener.Key own in
      let allowed : Allowed = allowed_for opener_ new.now in
      let c : NewDerivation = chosen_or iterations d in
      let asked : AskedDerivation = asking iterations (Some c) in
      let h : ℕ = hdr_size (header_at v a.place) in
      let first = before v payload e random w well ranges free a in
      let was = layout v payload e random w well ranges free a in
      let like : Like = a.edited.like in
      let added : HasAdded h (length v) payload to asked (keyslot_salt random) a.value a.new like = a.edited.has in
      let model = model_by allowed v a.place a.value opener_ a.sealed.key like a.metadata a.sealed.opened a.edited.is_like in
      let ready = ready_by v a.place payload e random a.value a.metadata ranges free _ refl like a.edited.is_like model in
      let taken = λ (x : IsNumberTaken a.value to). free.none SlotTaken (record { place = a.place; value = a.value; metadata = a.metadata; is = x }) in
      let none = λ (x : HasNoNumber a.value to). free.none NoFreeSlot (record { place = a.place; value = a.value; metadata = a.metadata; is = x }) in
      let g = added_gained allowed v a.place h payload random a.value a.new first was like asked ready to taken none added in
      let slot : a.sealed.slot ≡ added.slot = one_new a.value to a.sealed.slot added.slot a.sealed.is_made added.is_new in
      let holds : HoldsKey w a.new added.slot new.now own.bytes.now (stripes_random random) =
      subst (λ k. HoldsKey w a.new added.slot new.now k (stripes_random random)) a.sealed.opened.0
      (subst (λ n. HoldsKey w a.new n new.now a.sealed.key (stripes_random random)) slot a.sealed.holds) in
      let opened : AnswerWithin allowed w added.slot new.now (opens own.bytes.now) =
      own_opens allowed v a.place h payload a.value a.new added.slot own.bytes.now first was (members_of asked (keyslot_salt random) added.area) c refl
      (long_salt allowed v a.place h payload random a.value a.new first was like asked ready added.area added.place) ready.within like a.edited.is_like
      (own_accepted own.allowed.older v own.bytes.now a.place a.value like a.metadata a.sealed.opened.1 a.edited.is_like) added.is g.gains g.says
      w 0 new.now (stripes_random random) (after v payload e random w well ranges free a) (now e ranges free a) holds in
      λ n key is by_key.
      (let value : is.value ≡ a.value = one_metadata v a.place is.place a.metadata.copies is.metadata.copies a.value is.value
      a.metadata.chosen a.metadata.holds is.metadata.chosen is.metadata.holds in
      let here : IsNewKeyslot a.value to n = subst (λ j. IsNewKeyslot j to n) value is.is_new in
      let same : added.slot ≡ n = one_new a.value to added.slot n added.is_new here in
      subst (λ k. AnswerWithin allowed w n new.now (opens k)) (sym by_key.0) (subst (λ q. AnswerWithin allowed w q new.now (opens own.bytes.now)) same opened))
  opens_after (Change slot old new iterations d) ranges free a =
      let e : Edit = Change slot old new iterations d in
      let opener_ : Opener = opener.Keyslot slot old in
      let allowed : Allowed = allowed_for opener_ new.now in
      let asked : AskedDerivation = asking iterations d in
      let h : ℕ = hdr_size (header_at v a.place) in
      let first = before v payload e random w well ranges free a in
      let was = layout v payload e random w well ranges free a in
      let model = model_by allowed v a.place a.value opener_ a.sealed.key (Keyslot slot) a.metadata a.sealed.opened refl in
      let ready = ready_by v a.place payload e random a.value a.metadata ranges free _ refl (Keyslot slot) refl model in
      let changes = changed_changes allowed v a.place h payload random a.value a.new first was slot asked ready a.edited in
      let holds : HoldsKey w a.new slot new.now a.sealed.key (stripes_random random) =
      subst (λ n. HoldsKey w a.new n new.now a.sealed.key (stripes_random random)) a.sealed.is_made a.sealed.holds in
      let opened : AnswerWithin allowed w slot new.now (opens a.sealed.key) =
      changed_opens old.kind allowed v w payload a.place 0 h a.value a.new slot slot old.bytes.now new.now a.sealed.key (stripes_random random)
      a.metadata a.sealed.opened first was (after v payload e random w well ranges free a) (now e ranges free a) holds
      (members_of asked (keyslot_salt random) a.edited.area) refl
      (long_salt allowed v a.place h payload random a.value a.new first was (Keyslot slot) asked ready a.edited.area a.edited.place) ready.within changes in
      λ key by_key.
      (let key_same : a.sealed.key ≡ key = one_answer_to old.kind allowed v slot old.bytes.now (opens a.sealed.key) (opens key) a.sealed.opened by_key in
      subst (λ k. AnswerWithin allowed w slot new.now (opens k)) key_same opened)
  opens_after (Remove slot by_ passphrase) ranges free a = tt
  opens_after Erase ranges free a = tt
  opens_after Repair ranges free a = tt
  opens_after (Label text subsystem) ranges free a = tt
  opens_after (Uuid uuid) ranges free a = tt
  opens_after (Amend c) ranges free a = tt
