-- The keyslot that an edit opens: what opening it says of a well formed LUKS2 volume.
use Rattle.std.proofs.Common.{◌≡◌, ℕ, List, length, codes, refl, subst, sym, ap, ◌∙◌, arith, Bool, true, false, Option, Some, None, option_and_then}
use Rattle.serde_json.specs.Data.{Data as Value}
use Rattle.serde_json.specs.Find.{get}
use Rattle.luks_area.specs.declared.area.AreaName.TheVariants as area_name
use Rattle.luks2_header.specs.Header2.{hdr_size, header_at, uuid_field}
use Rattle.luks2_header.specs.Selection.{luks2, Chosen}
use Rattle.luks2_header.specs.declared.selection.Copies.{Copies}
use Rattle.luks2_header.proofs.ChoiceFacts.{choices_agree}
use Rattle.luks_rules.specs.declared.table.Member.TheVariants as name
use Rattle.luks_rules.specs.declared.table.Outer.TheVariants as outer
use Rattle.luks_rules.specs.declared.table.Section.TheVariants.{Keyslots}
use Rattle.luks_rules.specs.Faults.{member_at, object_at}
use Rattle.luks_rules.specs.Accepted.{IsMeta}
use Rattle.luks_rules.specs.MetaFault.{Json}
use Rattle.luks_rules.specs.Reading.{decimal_in, number_in}
use Rattle.luks_rules.proofs.AreaFaults.{one_value}
use Rattle.luks_rules.proofs.Deciding.{metadata_faultless}
use Rattle.std.proofs.lemmas.Bool.{false≢true}
use Rattle.std.proofs.lemmas.Option.{same_Some}
use Rattle.luks_reading.specs.declared.open_fault.OpenFault.{OpenFault}
use Rattle.luks_reading.specs.declared.open_fault.OpenFault.TheVariants as opening
use Rattle.luks_reading.specs.declared.report.Data.{Data}
use Rattle.luks_reading.specs.Answer.{AnswerWithin, HasPlanAs, IsLuks2RefusalWithin, IsRefusalAsWithin, IsRefusedByWithin, no_key, opened_to, opens, refused, TakesMemory}
use Rattle.luks_reading.specs.Checked.{IsLuks2Volume, WellFormed, WellFormedAs}
use Rattle.luks_reading.specs.Header.{json_at}
use Rattle.luks_reading.specs.Layout2.{slot_number}
use Rattle.luks_reading.specs.Plans.{HasLuks2KeyBytes, HasLuks2Plan}
use Rattle.luks_reading.proofs.VolumeLaws.{uuid_faultless}
use Rattle.luks_edit.specs.declared.edit.Edit.{Edit}
use Rattle.luks_edit.specs.declared.edit.SecretKind.TheVariants.{Key}
use Rattle.luks_reading.specs.Failures.{is_own}
use Rattle.luks_slot.specs.declared.allowed.Allowed.{Allowed}
use Rattle.luks_edit.specs.declared.edit.Opener.{Opener}
use Rattle.luks_edit.specs.declared.edit.Opener.TheVariants as opener
use Rattle.luks_edit.specs.declared.edit.Secret.{Secret}
use Rattle.luks_edit.specs.declared.edit_fault.EditFault.{EditFault}
use Rattle.luks_edit.specs.declared.edit_fault.EditFault.TheVariants as edit_fault
use Rattle.luks_edit.specs.Asked.{allowed_by, deed_of, opener_in}
use Rattle.luks_edit.specs.Opener.{IsUnmet, lock_fault}
use Rattle.luks_edit.specs.Secrets.{AnswersTo}
use Rattle.luks_edit.proofs.OpeningFacts.{is_lock, is_opening, lock_is, not_opening, opened_past}
use Rattle.luks2_edit_laws.specs.Metadata.{HasMetadata, IsInUse}
use Rattle.luks2_edit_laws.specs.Refused.{HasSaid, IsAbsent, IsUnkeyed2, IsUnopened2}
use Rattle.luks2_edit_laws.proofs.VolumeFacts.{copy_meta, copy_of, layout_of}
use Rattle.luks2_judging.specs.Opened.{IsUnopened, Luks2Keeps, Opens, unopened}
use Rattle.luks2_judging.proofs.ChosenFacts.{say}
use Rattle.luks2_judging.proofs.KeyslotFacts.{used_of, used_or_free}

-- an edit wants memory where opening did
pub wanting_of : (n : ℕ) (f : OpenFault) → unopened n f ≡ edit_fault.Memory → f ≡ opening.Memory
wanting_of n (opening.Head f) wants = absurd (cc)
wanting_of n (opening.Meta f) wants = absurd (cc)
wanting_of n opening.NoSuchSlot wants = absurd (cc)
wanting_of n opening.SlotFree wants = absurd (cc)
wanting_of n opening.Outside wants = absurd (cc)
wanting_of n (opening.Slot f) wants = absurd (cc)
wanting_of n opening.Device wants = absurd (cc)
wanting_of n opening.Memory wants = refl

-- a key that is kept, or none, is the answer to it
pub keeps_answer : (allowed : Allowed) (v : List ℕ) (n : ℕ) (key : List ℕ) (o : ℕ) (copies : Copies) (found : Option (List ℕ)) → Chosen v (luks2 o copies)
    → Luks2Keeps allowed (header_at v o) (json_at v o) (length v) n key found → AnswersTo Key allowed v n key (opened_to found)
keeps_answer allowed v n key o copies (Some k) chosen x = record { choice = luks2 o copies; chosen = chosen; plan = x.plan; is = x.is; unrefused = x.unrefused; key = x.own }
keeps_answer allowed v n key o copies None chosen x = record { choice = luks2 o copies; chosen = chosen; plan = x.plan; is = x.is; unrefused = x.unrefused; key = x.own }

-- a fault of the volume's own isn't a failed allocation
pub never_wanting : (f : OpenFault) → is_own f ≡ true → f ≡ opening.Memory → ⊥
never_wanting f own wants = let two : is_own opening.Memory ≡ true = subst (λ g. is_own g ≡ true) wants own in cc

-- the metadata of a well formed volume meets the rules
pub meta_of : (v : List ℕ) (payload : Data) → WellFormed v payload → (o : ℕ) (j : Value) → HasMetadata v o j → IsMeta (json_at v o) j
meta_of v payload well o j m = copy_meta v o (hdr_size (header_at v o)) j (copy_of v payload o j m well) (layout_of v payload o j m well).held

-- ---- a fault of another row isn't why an opener gives no key

unkeyed_other : (older : Bool) (j : Value) (key : List ℕ) (f : EditFault) → is_opening f ≡ false → IsUnkeyed2 older j key f → ⊥
unkeyed_other older j key edit_fault.KeyLength not bad = false≢true (sym not)
unkeyed_other older j key edit_fault.WrongKey not bad = false≢true (sym not)
unkeyed_other older j key (edit_fault.Slot s) not bad = false≢true (sym not)
unkeyed_other older j key f not bad = bad

pub unopened_other : (v : List ℕ) (e : Edit) (f : EditFault) (o : Option Opener) → opener_in (deed_of e) ≡ o → is_opening f ≡ false → IsUnopened2 v e f → ⊥
unopened_other v e f None asked not bad = rw asked at bad
unopened_other v e f (Some (opener.Keyslot slot secret)) asked not bad = not_opening (allowed_by e) v slot secret f not (rw asked at bad)
unopened_other v e f (Some (opener.Key key)) asked not bad =
    let said : HasSaid v (λ o j. IsUnkeyed2 key.allowed.older j key.bytes.now f) = rw asked at bad in
    unkeyed_other key.allowed.older said.value key.bytes.now f not said.is

-- ---- a keyslot and its secret

module _ (v : List ℕ) (e : Edit) (n : ℕ) (secret : Secret) (asked : opener_in (deed_of e) ≡ Some (opener.Keyslot n secret)) where
  pub opens_by : (key : List ℕ) → AnswersTo secret.kind (allowed_by e) v n secret.bytes.now (opens key) → Opens v e key
  opens_by key opened = record {
    gives = rw asked opened;
    past = record { none = λ f bad. opened_past (allowed_by e) v n secret key opened f (rw asked at bad) };
  }

  -- the secret gives none, where the key has so many bytes by the metadata
  unmet_by : (o : ℕ) (j : Value) (m : HasMetadata v o j) (k : ℕ) → HasLuks2KeyBytes j n k → AnswersTo secret.kind (allowed_by e) v n secret.bytes.now no_key
      → IsUnmet (allowed_by e) v n secret (lock_fault secret.kind k secret.bytes.now)
  unmet_by o j m k long x =
      let there : HasLuks2Plan (json_at v o) n x.plan = subst (λ c. HasPlanAs v n c x.plan) (choices_agree v x.choice (luks2 o m.copies) x.chosen m.chosen) x.is in
      let value : there.value ≡ j = one_value (json_at v o) there.value j there.holds m.holds in
      let found : object_at j Keyslots n ≡ Some there.object = subst (λ i. object_at i Keyslots n ≡ Some there.object) value there.there in
      let object : long.object ≡ there.object = same_Some long.object there.object (sym long.there ∙ found) in
      let same : k ≡ x.plan.key_bytes = same_Some k x.plan.key_bytes (sym long.is ∙ ap (λ d. number_in 1 128 (member_at d outer.Top name.KeySize)) object ∙ there.is.key_bytes) in
      record { gives = x; is = ap (λ l. lock_fault secret.kind l secret.bytes.now) same }

  lock_unopened : (f : EditFault) → is_lock f ≡ true → IsUnmet (allowed_by e) v n secret f → IsUnopened v e f
  lock_unopened edit_fault.Locked is x = rw asked x
  lock_unopened edit_fault.KeyLength is x = rw asked x
  lock_unopened edit_fault.WrongKey is x = rw asked x
  lock_unopened f is x = absurd (false≢true is)

  pub locked_by : (o : ℕ) (j : Value) (m : HasMetadata v o j) (k : ℕ) → HasLuks2KeyBytes j n k → AnswersTo secret.kind (allowed_by e) v n secret.bytes.now no_key
      → IsUnopened v e (lock_fault secret.kind k secret.bytes.now)
  locked_by o j m k long x = lock_unopened (lock_fault secret.kind k secret.bytes.now) (lock_is secret.kind k secret.bytes.now) (unmet_by o j m k long x)

  module _ (o : ℕ) (j : Value) (m : HasMetadata v o j) (payload : Data) (well : WellFormed v payload)
      (there : HasSaid v (λ q i. IsAbsent i e) → ⊥) where
    volume : IsLuks2Volume (header_at v o) (json_at v o) payload (length v)
    volume = subst (λ b. WellFormedAs v payload b) (choices_agree v well.choice (luks2 o m.copies) well.chosen m.chosen) well.formed

    as_luks2 : (f : OpenFault) → AnswerWithin (allowed_by e) v n secret.bytes.now (refused f) → IsLuks2RefusalWithin (allowed_by e) (header_at v o) (json_at v o) (length v) n f
    as_luks2 f is = subst (λ c. IsRefusalAsWithin (allowed_by e) v n c f) (choices_agree v is.0.choice (luks2 o m.copies) is.0.chosen m.chosen) is.0.fault

    used : IsInUse j n
    used = used_of j e n secret asked (λ absent. there (say v o j m (λ q i. IsAbsent i e) absent))

    same_value : (i : Value) → Json (json_at v o) i → i ≡ j
    same_value i holds = one_value (json_at v o) i j holds m.holds

    not_outside : IsLuks2RefusalWithin (allowed_by e) (header_at v o) (json_at v o) (length v) n opening.Outside → ⊥
    not_outside out =
        let layout = volume.layout.1 in
        let same : out.is.value ≡ volume.layout.0 = one_value (json_at v o) out.is.value volume.layout.0 out.is.holds layout.metadata.json in
        let found : object_at volume.layout.0 Keyslots n ≡ Some out.is.object = subst (λ i. object_at i Keyslots n ≡ Some out.is.object) same out.is.there in
        let start : slot_number volume.layout.0 n (codes "offset") ≡ Some out.plan.area.start =
        ap (λ d. decimal_in (option_and_then (get (codes "offset")) (option_and_then (get (codes "area")) d))) found ∙ out.is.is.start in
        let len : slot_number volume.layout.0 n (codes "size") ≡ Some out.plan.area.len =
        ap (λ d. decimal_in (option_and_then (get (codes "size")) (option_and_then (get (codes "area")) d))) found ∙ out.is.is.len in
        let past = out.past in
        let inside = layout.fit.inside (area_name.Slot n) out.plan.area (out.is.numbered, start, len) in
        omega (arith, past, inside)

    -- a keyslot of a well formed volume is refused by its plan alone, and memory only where it takes it
    pub unopened_by : (f : OpenFault) → IsRefusedByWithin (allowed_by e) v n secret.bytes.now f → (f ≡ opening.Memory → TakesMemory (allowed_by e) v n) → IsUnopened v e (unopened n f)
    unopened_by (opening.Head f) is other = absurd ((uuid_faultless (uuid_field (header_at v o))).1 volume.uuid f (as_luks2 (opening.Head f) is))
    unopened_by (opening.Meta f) is other = absurd ((metadata_faultless (json_at v o)).1 (volume.layout.0, volume.layout.1.metadata) f (as_luks2 (opening.Meta f) is))
    unopened_by opening.NoSuchSlot is other =
        let absent = as_luks2 opening.NoSuchSlot is in
        let none : object_at absent.value Keyslots n ≡ None = absent.absent used.0 in
        let gone : object_at j Keyslots n ≡ None = subst (λ i. object_at i Keyslots n ≡ None) (same_value absent.value absent.holds) none in
        absurd (used_or_free j n used (record { small = used.0; free = gone }))
    unopened_by opening.SlotFree is other = absurd (as_luks2 opening.SlotFree is)
    unopened_by opening.Outside is other = absurd (not_outside (as_luks2 opening.Outside is))
    unopened_by (opening.Slot f) is other = rw asked is
    unopened_by opening.Device is other = tt
    unopened_by opening.Memory is other = rw asked (other refl)
