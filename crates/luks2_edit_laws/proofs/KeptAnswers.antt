-- A keyslot that a change leaves as it was has the answer that it had.
use Rattle.std.proofs.Common.{◌≡◌, ℕ, ◌↔◌, List, Option, Some, None, sym, ap, subst, ◌∙◌}
use Rattle.luks2_header.specs.Selection.{Choice, luks2, Chosen}
use Rattle.luks_slot.specs.declared.allowed.Allowed.{Allowed}
use Rattle.luks_slot.specs.Opening.{slot_key}
use Rattle.luks_reading.specs.declared.open_fault.OpenFault.{OpenFault}
use Rattle.luks_reading.specs.declared.open_fault.OpenFault.TheVariants.{Head, Meta, NoSuchSlot, SlotFree, Outside, Slot, Device, Memory}
use Rattle.luks_reading.specs.Answer.{AnswerWithin, IsRefusalWithin, IsRefusalAsWithin, Opened, OpensWithin, opens, no_key, refused}
use Rattle.luks2_edit_laws.specs.Kept.{HasSameKeyslot}

-- what keeps a keyslot one way keeps it the other way
pub kept_back : (v w : List ℕ) (m : ℕ) → HasSameKeyslot v w m → HasSameKeyslot w v m
kept_back v w m k = record {
  old_place = k.new_place;
  old_copies = k.new_copies;
  old_chosen = k.new_chosen;
  new_place = k.old_place;
  new_copies = k.old_copies;
  new_chosen = k.old_chosen;
  long = sym k.long;
  uuid = λ f. ((k.uuid f).1, (k.uuid f).0);
  old_faultless = k.new_faultless;
  new_faultless = k.old_faultless;
  slot = record { absent = (k.slot.absent.1, k.slot.absent.0); plans = λ plan. ((k.slot.plans plan).1, (k.slot.plans plan).0) };
  bytes = λ plan h. sym (k.bytes plan ((k.slot.plans plan).1 h));
}

-- each refusal is kept
refused_as : (allowed : Allowed) (v w : List ℕ) (m : ℕ) (k : HasSameKeyslot v w m) (f : OpenFault)
    → IsRefusalAsWithin allowed v m (luks2 k.old_place k.old_copies) f → IsRefusalAsWithin allowed w m (luks2 k.new_place k.new_copies) f
refused_as allowed v w m k (Head g) h = (k.uuid g).0 h
refused_as allowed v w m k (Meta g) h = absurd (k.old_faultless g h)
refused_as allowed v w m k NoSuchSlot h = k.slot.absent.0 h
refused_as allowed v w m k SlotFree h = h
refused_as allowed v w m k Outside h = record { plan = h.plan; is = (k.slot.plans h.plan).0 h.is; past = rw k.long h.past }
refused_as allowed v w m k (Slot g) h = record { plan = h.plan; is = (k.slot.plans h.plan).0 h.is; refused = h.refused }
refused_as allowed v w m k Device h = h
refused_as allowed v w m k Memory h = h

module _ (one : (v : List ℕ) (b c : Choice) → Chosen v b → Chosen v c → b ≡ c) where
  still_refused : (allowed : Allowed) (v w : List ℕ) (m : ℕ) → HasSameKeyslot v w m → (f : OpenFault) → IsRefusalWithin allowed v m f → IsRefusalWithin allowed w m f
  still_refused allowed v w m k f r =
      let same : r.choice ≡ luks2 k.old_place k.old_copies = one v r.choice (luks2 k.old_place k.old_copies) r.chosen k.old_chosen in
      record {
        choice = luks2 k.new_place k.new_copies;
        chosen = k.new_chosen;
        fault = refused_as allowed v w m k f (subst (λ c. IsRefusalAsWithin allowed v m c f) same r.fault);
      }

  still_opens : (allowed : Allowed) (v w : List ℕ) (m : ℕ) → HasSameKeyslot v w m → (p : List ℕ) (found : Option (List ℕ)) → OpensWithin allowed v m p found → OpensWithin allowed w m p found
  unfolding kept_back
  still_opens allowed v w m k p found o =
      let same : o.choice ≡ luks2 k.old_place k.old_copies = one v o.choice (luks2 k.old_place k.old_copies) o.chosen k.old_chosen in
      let had = rw same at o.is in
      record {
        choice = luks2 k.new_place k.new_copies;
        chosen = k.new_chosen;
        plan = o.plan;
        is = (k.slot.plans o.plan).0 had;
        unrefused = λ f h. o.unrefused f (subst (λ c. IsRefusalAsWithin allowed v m c f) (sym same) (refused_as allowed w v m (kept_back v w m k) f h));
        key = ap (λ bytes. slot_key o.plan bytes p) (k.bytes o.plan had) ∙ o.key;
      }

  -- the answer is kept
  answer_kept : (v w : List ℕ) (m : ℕ) → HasSameKeyslot v w m → (allowed : Allowed) (p : List ℕ) (a : Opened) → AnswerWithin allowed v m p a → AnswerWithin allowed w m p a
  answer_kept v w m k allowed p (refused f) h = (still_refused allowed v w m k f h.0, λ g r. h.1 g (still_refused allowed w v m (kept_back v w m k) g r))
  answer_kept v w m k allowed p (opens key) h = still_opens allowed v w m k p (Some key) h
  answer_kept v w m k allowed p no_key h = still_opens allowed v w m k p None h

  -- the keyslot has the answers that it had, and no others
  pub answers_kept : (v w : List ℕ) (m : ℕ) → HasSameKeyslot v w m → (allowed : Allowed) (p : List ℕ) (a : Opened) → AnswerWithin allowed v m p a ↔ AnswerWithin allowed w m p a
  answers_kept v w m k allowed p a = (answer_kept v w m k allowed p a, answer_kept w v m (kept_back v w m k) allowed p a)
