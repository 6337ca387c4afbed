-- A keyslot of new metadata that is sealed by its plan: what that takes, and what it leaves.
use Rattle.std.proofs.Common.{◌≡◌, ℕ, ◌+◌, ◌-◌, ◌*◌, ◌≤◌, List, length, drop, Option, Some, Result, Ok, Err, OnOk, inl, inr, sym, ap, ◌∙◌, arith, length-drop}
use Rattle.std.proofs.lemmas.Option.{same_Some}
use Rattle.serde_json.specs.Data.{Data as Value}
use Rattle.luks_area.specs.Ranges.{IsOfEither, SameBut}
use Rattle.luks_area.proofs.RangeFacts.{same_but-wider}
use Rattle.luks2_header.specs.Header2.{hdr_size, header_at}
use Rattle.luks_rules.specs.declared.table.Member.TheVariants as name
use Rattle.luks_rules.specs.declared.table.Outer.TheVariants as outer
use Rattle.luks_rules.specs.declared.table.Section.TheVariants.{Keyslots}
use Rattle.luks_rules.specs.Accepted.{HasObject}
use Rattle.luks_rules.specs.Faults.{member_at}
use Rattle.luks_rules.specs.Reading.{number_in}
use Rattle.luks_making.specs.Naming.{IsDigestOf}
use Rattle.luks_slot.specs.declared.allowed.Allowed.{Allowed}
use Rattle.luks_slot.specs.declared.plan.SlotPlan.{SlotPlan}
use Rattle.luks_slot.specs.Opening.{area_bytes}
use Rattle.luks_slot.specs.Sealing.{IsSealed}
use Rattle.luks_reading.specs.declared.report.Data.{Data}
use Rattle.luks_reading.specs.Plans.{IsLuks2Plan}
use Rattle.luks_reading.proofs.Luks2PlanNumbers.{has_turns}
use Rattle.luks_edit.specs.declared.edit.Edit.{Edit}
use Rattle.luks_edit.specs.declared.edit_fault.EditFault.{EditFault}
use Rattle.luks_edit.specs.declared.edit_fault.EditFault.TheVariants as fault
use Rattle.luks2_edit_laws.specs.Edited.{stripes_random, HoldsKey}
use Rattle.luks2_edit_laws.specs.Leftovers.{IsTornAt}
use Rattle.luks2_edit_laws.specs.Places.{IsOfCopies, IsOfSealed}
use Rattle.luks2_edit_laws.proofs.ToldFacts.{in_between}
use Rattle.luks2_editing.specs.Rewriting.{AreWrittenAnew}
use Rattle.luks2_editing.specs.Sealed.{IsOfStripes, IsPlanFault, IsReadyPlan, MayBeHalfSealed}
use Rattle.luks2_editing.specs.SealedKeyslot.{IsKeyslotWritten, IsOfStripesOf, IsSealable, IsSealing, IsUnsealed}
use Rattle.luks2_judging.proofs.KeyAreaFacts.{area_of_object}

-- what follows of two facts where a call succeeds
pub on_ok_both : {T E P Q R : Type 0} (r : Result T E) → (P → Q → R) → OnOk r P → OnOk r Q → OnOk r R
on_ok_both (Ok x) step a b = step a b
on_ok_both (Err e) step a b = tt

-- ---- the numbers of a plan

-- one is at least the least
at_least_one : (d : Option Value) (n : ℕ) → number_in 1 4294967295 d ≡ Some n → 1 ≤ n
at_least_one d n e = (in_between 1 4294967295 n d e).from

-- ---- a plan of the keyslot

-- it is one by the keyslot's object, and one digest names the keyslot
pub record IsPlanOf (k : Value) (n : ℕ) (plan : SlotPlan) : Type 0 where
  pub object : Value
  pub there : HasObject k Keyslots n object
  pub is : IsLuks2Plan k n object plan
  pub one : (m : ℕ) → IsDigestOf k n m → m ≡ is.digest.number

module _ (h total : ℕ) (k : Value) (n : ℕ) (key random : List ℕ) (x : IsSealable h k n key random total) (plan : SlotPlan) (p : IsPlanOf k n plan) where
  object_is : p.object ≡ x.slot.object
  object_is = same_Some p.object x.slot.object (sym p.there.is ∙ x.slot.there.is)

  key_bytes_are : plan.key_bytes ≡ x.key_bytes
  key_bytes_are = same_Some plan.key_bytes x.key_bytes (sym p.is.key_bytes ∙ ap (λ d. number_in 1 128 (member_at d outer.Top name.KeySize)) object_is ∙ x.slot.key_bytes_are)

  stripes_are : plan.stripes ≡ x.stripes
  stripes_are = same_Some plan.stripes x.stripes (sym p.is.stripes ∙ ap (λ d. number_in 1 4294967295 (member_at d outer.Af name.Stripes)) object_is ∙ x.slot.stripes_are)

  start_is : plan.area.start ≡ x.area.start
  start_is = let here = area_of_object k p.object n plan.area.start plan.area.len p.there.named p.there.is p.is.start p.is.len in
      same_Some plan.area.start x.area.start (sym here.1 ∙ x.place.1)

  len_is : plan.area.len ≡ x.area.len
  len_is = let here = area_of_object k p.object n plan.area.start plan.area.len p.there.named p.there.is p.is.start p.is.len in
      same_Some plan.area.len x.area.len (sym here.2 ∙ x.place.2)

  pub ready : IsReadyPlan h plan key random total
  ready =
      let bytes = key_bytes_are in
      let stripes = stripes_are in
      let start = start_is in
      let len = len_is in
      let inside : x.area.start + x.area.len ≤ total = x.inside in
      let behind = x.behind in
      let all : length random ≡ 160 + (plan.stripes - 1) * plan.key_bytes = rw (bytes, stripes) x.random_length in
      let after : length (drop 160 random) ≡ length random - 160 = length-drop 160 random in
      record {
        long = omega (arith, all);
        sealed = record {
          iterations = has_turns p.object plan.derivation p.is.derivation;
          key_length = x.key_length ∙ sym bytes;
          some_stripes = at_least_one (member_at p.object outer.Af name.Stripes) plan.stripes p.is.stripes;
          random_length = omega (arith, after, all);
          sectors = rw (bytes, stripes, len) x.large;
          within = omega (arith, start, len, inside);
        };
        behind = omega (arith, start, behind);
      }

  -- ---- what was sealed

  -- the keyslot holds the key
  pub holds : (passphrase w : List ℕ) → IsSealed plan (area_bytes w plan.area) passphrase key (drop 160 random) → HoldsKey w k n passphrase key (stripes_random random)
  holds passphrase w sealed = record {
    object = p.object;
    there = p.there;
    plan = plan;
    is = p.is;
    key_length = ready.sealed.key_length;
    random_length = ready.sealed.random_length;
    sealed = sealed;
  }

  -- its sectors are those of the plan
  of_stripes : (q : ℕ) → IsOfStripes plan q → IsOfStripesOf k n q
  of_stripes q at = record {
    area = plan.area;
    place = area_of_object k p.object n plan.area.start plan.area.len p.there.named p.there.is p.is.start p.is.len;
    key_bytes = plan.key_bytes;
    stripes = plan.stripes;
    slot = record { object = p.object; there = p.there; key_bytes_are = p.is.key_bytes; stripes_are = p.is.stripes };
    at = at;
  }

  -- why it isn't sealed
  pub plan_unsealed : (allowed : Allowed) (f : EditFault) → IsPlanFault allowed plan f → IsUnsealed allowed k n f
  plan_unsealed allowed (fault.Slot f) refused = record { object = p.object; there = p.there; plan = plan; is = p.is; one = p.one; refused = refused }
  plan_unsealed allowed fault.Memory x = tt
  plan_unsealed allowed fault.Device x = tt
  plan_unsealed allowed f x = absurd x

  module _ (v : List ℕ) (o : ℕ) (e : Edit) (passphrase w : List ℕ) where
    -- all was written
    pub keyslot_written : IsSealed plan (area_bytes w plan.area) passphrase key (drop 160 random) → AreWrittenAnew v o e random k w
        → SameBut (IsOfEither (IsOfStripes plan) (IsOfCopies (hdr_size (header_at v o)))) v w → IsKeyslotWritten v o e random k n passphrase key w
    keyslot_written sealed anew rest = record {
      holds = holds passphrase w sealed;
      anew = anew;
      rest = same_but-wider (λ q at. either q at) rest;
    }
      where
        either : (q : ℕ) → IsOfEither (IsOfStripes plan) (IsOfCopies (hdr_size (header_at v o))) q → IsOfEither (IsOfStripesOf k n) (IsOfCopies (hdr_size (header_at v o))) q
        either q (inl at) = inl (of_stripes q at)
        either q (inr at) = inr at

    module _ (payload : Data) (j : Value) (s : IsSealing v payload e random o j k n passphrase key) where
      sealed_place : (q : ℕ) → IsOfStripes plan q → IsOfSealed (hdr_size (header_at v o)) (length v) payload j e q
      sealed_place q at = s.place q (of_stripes q at)

      either_place : (S : ℕ → Type 0) (q : ℕ) → IsOfEither (IsOfStripes plan) S q → IsOfEither (IsOfSealed (hdr_size (header_at v o)) (length v) payload j e) S q
      either_place S q (inl at) = inl (sealed_place q at)
      either_place S q (inr at) = inr at

      -- it was torn
      pub torn_keyslot : MayBeHalfSealed v o e random k plan passphrase key (drop 160 random) v w → IsTornAt v payload e random o j k w
      torn_keyslot (inl same) = inl (same_but-wider sealed_place same)
      torn_keyslot (inr (inl t)) = inr (inl (record {
        sealed = s.sealed w (holds passphrase w t.sealed);
        rest = same_but-wider (either_place _) t.rest;
      }))
      torn_keyslot (inr (inr t)) = inr (inr (inl (record {
        sealed = s.sealed w (holds passphrase w t.sealed);
        other = t.other;
        rest = same_but-wider (either_place _) t.rest;
      })))
