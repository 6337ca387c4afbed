-- A keyslot that was made or sealed again opens by its passphrase to the key that was opened.
use Rattle.std.proofs.Common.{◌≡◌, ℕ, ◌+◌, ◌<◌, ◌≤◌, List, length, true, Some, None, refl, sym, ap, subst, ◌∙◌, arith}
use Rattle.std.specs.Prelude.{if◌then◌else◌}
use Rattle.serde_json.specs.Data.{Data as Value}
use Rattle.luks_area.specs.declared.area.AreaName.TheVariants as area
use Rattle.luks_kdf.specs.KeyslotNames.{each_keyslot_at_least, keyslot_digest, keyslot_digest_size, length-keyslot_digest}
use Rattle.luks_kdf.proofs.SplitterFacts.{merge-split}
use Rattle.luks2_header.specs.Header2.{header_at, uuid_field}
use Rattle.luks2_header.specs.Selection.{luks2}
use Rattle.luks_rules.specs.declared.table.Member.TheVariants as name
use Rattle.luks_rules.specs.declared.table.Outer.TheVariants as outer
use Rattle.luks_rules.specs.declared.table.Section.TheVariants.{Digests, Keyslots}
use Rattle.luks_rules.specs.Faults.{member_at, object_at}
use Rattle.luks_rules.specs.Reading.{bytes_in, number_in, text_of}
use Rattle.luks_rules.proofs.AreaFaults.{one_value}
use Rattle.luks_making.specs.Naming.{IsDigestOf}
use Rattle.luks_slot.specs.declared.allowed.Allowed.{Allowed}
use Rattle.luks_slot.specs.declared.plan.DigestPlan.{DigestPlan}
use Rattle.luks_slot.specs.declared.plan.SlotPlan.{SlotPlan}
use Rattle.luks_slot.specs.Opening.{area_bytes, hash_by_name, meets_digest, slot_key}
use Rattle.luks_slot.proofs.SealingFacts.{sealed_opens}
use Rattle.luks_slot.specs.Refusal.{slot_refusal_within}
use Rattle.luks_reading.specs.declared.open_fault.OpenFault.{OpenFault}
use Rattle.luks_reading.specs.declared.open_fault.OpenFault.TheVariants.{Head, Meta, NoSuchSlot, SlotFree, Outside, Slot, Device, Memory}
use Rattle.luks_reading.specs.declared.report.Data.{Data}
use Rattle.luks_reading.specs.Answer.{opens, AnswerWithin, IsRefusalAsWithin}
use Rattle.luks_reading.specs.Header.{json_at}
use Rattle.luks_reading.specs.Plans.{HasLuks2Plan, IsLuks2Digest, IsLuks2Plan}
use Rattle.luks_reading.proofs.VolumeLaws.{uuid_faultless}
use Rattle.luks2_edit_laws.specs.Edited.{HoldsKey}
use Rattle.luks2_edit_laws.proofs.ToldFacts.{in_between}
use Rattle.luks2_edit_laws.proofs.MetadataFacts.{some_same}
use Rattle.luks2_edit_laws.proofs.VolumeFacts.{copy_faultless, HasCopy, IsLayout}

-- ---- digests

-- one digest says one thing
pub record SameDigest (a b : DigestPlan) : Type 0 where
  pub hash : a.hash.now ≡ b.hash.now
  pub iterations : a.iterations ≡ b.iterations
  pub salt : a.salt.now ≡ b.salt.now
  pub stored : a.stored.now ≡ b.stored.now

pub one_plan : (k : Value) (n : ℕ) (a b : DigestPlan) → ((m l : ℕ) → IsDigestOf k n m → IsDigestOf k n l → m ≡ l) → IsLuks2Digest k n a → IsLuks2Digest k n b → SameDigest a b
one_plan k n a b one x y =
    let number : x.number ≡ y.number = one x.number y.number x.names y.names in
    let object : x.object ≡ y.object = some_same x.object y.object (sym x.there ∙ ap (object_at k Digests) number ∙ y.there) in
    record {
      hash = some_same a.hash.now b.hash.now (sym x.hash ∙ ap (λ d. text_of (member_at d outer.Top name.Hash)) object ∙ y.hash);
      iterations = some_same a.iterations b.iterations (sym x.iterations ∙ ap (λ d. number_in 1 4294967295 (member_at d outer.Top name.Iterations)) object ∙ y.iterations);
      salt = some_same a.salt.now b.salt.now (sym x.salt ∙ ap (λ d. bytes_in 1 128 (member_at d outer.Top name.Salt)) object ∙ y.salt);
      stored = some_same a.stored.now b.stored.now (sym x.stored ∙ ap (λ d. bytes_in 20 64 (member_at d outer.Top name.Digest)) object ∙ y.stored);
    }

pub same_meeting : (a b : DigestPlan) (key : List ℕ) → SameDigest a b → meets_digest a key ≡ meets_digest b key
unfolding meets_digest
same_meeting a b key s = simp (s.hash, s.iterations, s.salt, s.stored)

-- ---- the answer

module _
    (allowed : Allowed) (w : List ℕ) (payload : Data) (p h : ℕ) (k : Value) (n : ℕ) (new key random : List ℕ) (told : DigestPlan)
    (meets : meets_digest told key ≡ true) (after : HasCopy w p h k) (layout : IsLayout h (length w) payload k) (y : HoldsKey w k n new key random)
    (fine : (plan : SlotPlan) → IsLuks2Plan k n y.object plan → SameDigest told plan.digest → slot_refusal_within allowed plan ≡ None)
    (one : (m l : ℕ) → IsDigestOf k n m → IsDigestOf k n l → m ≡ l) (digest : IsLuks2Digest k n told)
  where
    plan_is : (plan : SlotPlan) → HasLuks2Plan (json_at w p) n plan → IsLuks2Plan k n y.object plan
    plan_is plan z =
        let value : z.value ≡ k = one_value (json_at w p) z.value k z.holds after.holds in
        let there : object_at k Keyslots n ≡ Some z.object = rw value at z.there in
        let is : IsLuks2Plan k n z.object plan = rw value at z.is in
        let object : z.object ≡ y.object = some_same z.object y.object (sym there ∙ y.there.is) in
        subst (λ d. IsLuks2Plan k n d plan) object is

    met_as : (plan : SlotPlan) → IsLuks2Plan k n y.object plan → SameDigest told plan.digest
    met_as plan is = one_plan k n told plan.digest one digest is.digest

    unrefused : (f : OpenFault) → IsRefusalAsWithin allowed w n (luks2 p after.copies) f → ⊥
    unrefused (Head g) z = (uuid_faultless (uuid_field (header_at w p))).1 after.uuid g z
    unrefused (Meta g) z = copy_faultless w p h k after layout.held g z
    unrefused NoSuchSlot z =
        let value : z.value ≡ k = one_value (json_at w p) z.value k z.holds after.holds in
        let none : object_at k Keyslots n ≡ None = rw value at (z.absent y.there.named) in
        absurd (let both : None ≡ Some y.object = sym none ∙ y.there.is in cc)
    unrefused SlotFree z = z
    unrefused Outside z =
        let is : IsLuks2Plan k n y.object z.plan = plan_is z.plan z.is in
        let inside : z.plan.area.start + z.plan.area.len ≤ length w = layout.fit.inside (area.Slot n)
        (record { start = z.plan.area.start; len = z.plan.area.len }) (y.there.named, rw y.there.is is.start, rw y.there.is is.len) in
        let past : length w < z.plan.area.start + z.plan.area.len = z.past in
        absurd (omega (arith, inside, past))
    unrefused (Slot g) z =
        let is : IsLuks2Plan k n y.object z.plan = plan_is z.plan z.is in
        absurd (let both : None ≡ Some g = sym (fine z.plan is (met_as z.plan is)) ∙ z.refused in cc)
    unrefused Device z = z
    unrefused Memory z = z

    -- the keyslot opens to the key
    pub holds_opens : AnswerWithin allowed w n new (opens key)
    holds_opens =
        let met : meets_digest y.plan.digest key ≡ true = sym (same_meeting told y.plan.digest key (met_as y.plan y.is)) ∙ meets in
        let hash = hash_by_name y.plan.splitter_hash.now in
        let open_ : slot_key y.plan (area_bytes w y.plan.area) new ≡ (if meets_digest y.plan.digest key then Some key else None) =
        sealed_opens y.plan (area_bytes w y.plan.area) new key random (in_between 1 4294967295 y.plan.stripes (member_at y.object outer.Af name.Stripes) y.is.stripes).from y.key_length y.random_length
        (merge-split (keyslot_digest hash) (keyslot_digest_size hash) (length-keyslot_digest hash) (each_keyslot_at_least 1 keyslot_digest_size refl hash)) y.sealed in
        record {
          choice = luks2 p after.copies;
          chosen = after.chosen;
          plan = y.plan;
          is = record { numbered = y.there.named; value = k; holds = after.holds; object = y.object; there = y.there.is; is = y.is };
          unrefused = unrefused;
          key = open_ ∙ ap (λ b. if b then Some key else None) met;
        }
