-- The header that is made is well formed, and its kept keyslots give what the source's equations give.
use Rattle.std.proofs.Common.{◌≡◌, ℕ, Bool, ◌<◌, ◌≤◌, List, length, Option, Some, None, inl, inr, sym, ap, subst, ◌∙◌, arith, lit≤}
use Rattle.byteorder.specs.Endian.{big_number}
use Rattle.luks_area.specs.Ranges.{part}
use Rattle.luks_area.proofs.RangeFacts.{length-part, part-part}
use Rattle.luks_area.specs.declared.area.AreaName.TheVariants as name
use Rattle.luks1_header.specs.Faults.{IsCommonFault, IsEntryFault}
use Rattle.luks1_header.specs.Header1.{active_word, enabled_word, entry, entry_key_material_offset, header_text, key_bytes_of, HoldsCommon, HoldsEntry, IsEntry, IsLuks1}
use Rattle.luks1_header.specs.declared.fault.HeadFault.{HeadFault}
use Rattle.luks1_header.specs.declared.fault.HeadFault.TheVariants as head
use Rattle.luks1_header.specs.declared.fault.IterationsOf.TheVariants as of
use Rattle.luks1_header.specs.declared.fault.TextField.{TextField}
use Rattle.luks1_header.specs.declared.luks1.Luks1Slot.{Luks1Slot}
use Rattle.luks1_header.proofs.Luks1FaultFacts.{common_sound, entry_sound}
use Rattle.luks1_mending.specs.Areas.{sector_of}
use Rattle.luks1_mending.specs.Kept.{IsKept}
use Rattle.luks1_mending.specs.Mended.{IsMadeSlot}
use Rattle.luks1_mending.specs.Taken.{taken_text}
use Rattle.luks1_mending.specs.declared.given.Given.{Given}
use Rattle.luks1_mending.proofs.HeaderFacts.{common_held, made_header, text_there}
use Rattle.luks1_mending.proofs.KeptFacts.{sound_of}
use Rattle.luks2_header.proofs.ChoiceFacts.{choices_agree}
use Rattle.luks2_header.specs.Selection.{Choice, luks1, Chosen}
use Rattle.luks_slot.specs.declared.allowed.Allowed.{Allowed}
use Rattle.luks_slot.specs.Opening.{slot_key}
use Rattle.luks_slot.specs.declared.plan.SlotPlan.{SlotPlan}
use Rattle.luks_reading.specs.Answer.{no_key, opens, refused, AnswerWithin, HasPlanAs, IsLuks1HeadRefusal, IsLuks1Refusal, IsRefusalAsWithin, IsRefusalWithin, Opened, OpensWithin}
use Rattle.luks_reading.specs.Checked.{IsLuks1Volume, WellFormed}
use Rattle.luks_reading.specs.declared.open_fault.OpenFault.{OpenFault}
use Rattle.luks_reading.specs.declared.open_fault.OpenFault.TheVariants.{Head, Meta, NoSuchSlot, SlotFree, Outside, Slot, Device, Memory}
use Rattle.luks_reading.specs.declared.report.Data.TheVariants.{Elsewhere}
use Rattle.luks1_rebuilding.proofs.PlanFacts.{plan_here, plan_there, SaysKept}
use Rattle.luks1_rebuilding.specs.Gives.{Gives, GivesKept, IsKeptPlan, IsRefusedKept}
use Rattle.luks1_rebuilding.specs.KeyAreas.{header_of, key_of, IsKeptInUse}
use Rattle.luks1_rebuilding.specs.Rebuilt.{IsRebuilt}
use Rattle.luks1_rebuilding.specs.Used.{any_slot, slot_at}

-- what a kept keyslot becomes says what its entry says
pub kept_entry : (h : List ℕ) (k total n : ℕ) (s : Luks1Slot) → IsKept h k total n → IsMadeSlot h k total n s → IsEntry (entry h n) s
kept_entry h k total n s kept (inl x) = x.1
kept_entry h k total n s kept (inr x) = absurd (x.0 kept)

module _ (v old w : List ℕ) (g : Given) (x : IsRebuilt v g old w) (formed : IsLuks1Volume (part w 0 592) Elsewhere (length w)) where
  long : 592 ≤ length w
  long = (let head_long = formed.header.1.long in let is = length-part w 0 592 in omega (arith, head_long, is))

  pub chosen : Chosen w luks1
  chosen = record {
    long = long;
    magic = sym (part-part w 0 592 0 6 (lit≤ tt)) ∙ x.written.common.magic;
    version = ap (λ b. big_number 2 b) (sym (part-part w 0 592 6 2 (lit≤ tt))) ∙ x.written.common.version;
  }

  pub well_formed : WellFormed w Elsewhere
  well_formed = record { choice = luks1; chosen = chosen; formed = formed }

  is_header : IsLuks1 (part w 0 592) x.header
  is_header = made_header (header_of v) (length v) g x.header x.made (part w 0 592) x.written

  text_is : (t : TextField) → header_text (part w 0 592) t ≡ taken_text (header_of v) g t
  text_is t = text_there (header_of v) g x.header.common x.made.common (part w 0 592) x.written.common t ∙ x.made.common.texts t

  held : HoldsCommon (part w 0 592) x.header.common
  held = common_held (header_of v) g x.header.common x.made.common (part w 0 592) x.written.common

  key_is : key_bytes_of (part w 0 592) ≡ key_of v g
  key_is = held.key_bytes ∙ x.made.common.key_bytes

  module _ (n : ℕ) (used : IsKeptInUse v g n) where
    low : n < 8
    low = (sound_of (header_of v) (key_of v g) (length v) n used.kept).numbered

    source_entry : IsEntry (entry (header_of v) n) (slot_at x.header n)
    source_entry = kept_entry (header_of v) (key_of v g) (length v) n (slot_at x.header n) used.kept (x.made.slots n any_slot low)

    target_entry : HoldsEntry (entry (part w 0 592) n) (slot_at x.header n)
    target_entry = (x.written.slots n any_slot low).fields

    word_is : active_word (entry (part w 0 592) n) ≡ enabled_word
    word_is = target_entry.state ∙ sym source_entry.fields.state ∙ used.enabled

    sector_is : entry_key_material_offset (entry (part w 0 592) n) ≡ sector_of (header_of v) n
    sector_is = target_entry.key_material_offset ∙ sym source_entry.fields.key_material_offset

    says : SaysKept v g n (part w 0 592)
    says = record {
      numbered = low;
      texts = text_is;
      key_bytes = key_is;
      digest = held.mk_digest ∙ x.made.common.mk_digest;
      digest_salt = held.mk_digest_salt ∙ x.made.common.mk_digest_salt;
      digest_iterations = held.mk_digest_iterations ∙ x.made.common.mk_digest_iterations;
      iterations = target_entry.iterations ∙ sym source_entry.fields.iterations;
      salt = target_entry.salt ∙ sym source_entry.fields.salt;
      sector = sector_is;
      stripes = target_entry.stripes ∙ sym source_entry.fields.stripes;
    }

    same_bytes : (plan : SlotPlan) → IsKeptPlan v g n plan → part w plan.area.start plan.area.len ≡ part v plan.area.start plan.area.len
    same_bytes plan z = x.areas n plan.area (record { in_use = used; is = z.area })

    -- it is refused by its plan alone
    no_common : (f : HeadFault) → IsCommonFault (part w 0 592) f → ⊥
    no_common = common_sound (part w 0 592) x.header.common is_header.common

    no_entry : (f : HeadFault) → IsEntryFault n (entry (part w 0 592) n) f → ⊥
    no_entry = entry_sound n (entry (part w 0 592) n) (slot_at x.header n) (is_header.slots.each n any_slot low)

    no_head : (f : HeadFault) → IsLuks1HeadRefusal (part w 0 592) n f → ⊥
    no_head (head.SlotState m) y = no_entry (head.SlotState m) y.1
    no_head (head.Stripes m) y = no_entry (head.Stripes m) y.1
    no_head (head.Iterations (of.Slot m)) y = no_entry (head.Iterations (of.Slot m)) y.1
    no_head f y = no_common f y

    from_refusal : (older : Bool) (f : OpenFault) → IsLuks1Refusal older (part w 0 592) (length w) n f → IsRefusedKept older v g n f
    from_refusal older (Head f) y = absurd (no_head f y)
    from_refusal older (Meta f) y = y
    from_refusal older NoSuchSlot y = absurd (let number = low in omega (arith, number, y))
    from_refusal older SlotFree y = absurd (let on = word_is in let off = y.1 in omega (arith, on, off))
    from_refusal older Outside y = absurd (
        let inside = formed.fit.inside (name.Slot n) y.plan.area (low, y.is.is.start, y.is.is.len) in
        let past = y.past in
        omega (arith, inside, past))
    from_refusal older (Slot f) y = record { plan = y.plan; is = plan_here says y.plan y.is; refused = y.refused }
    from_refusal older Device y = y
    from_refusal older Memory y = y

    to_refusal : (older : Bool) (f : OpenFault) → IsRefusedKept older v g n f → IsLuks1Refusal older (part w 0 592) (length w) n f
    to_refusal older (Head f) y = absurd y
    to_refusal older (Meta f) y = y
    to_refusal older NoSuchSlot y = absurd y
    to_refusal older SlotFree y = absurd y
    to_refusal older Outside y = absurd y
    to_refusal older (Slot f) y = record { plan = y.plan; is = plan_there says y.plan y.is; refused = y.refused }
    to_refusal older Device y = y
    to_refusal older Memory y = y

    module _ (allowed : Allowed) where
      by_chosen : (f : OpenFault) → IsRefusalWithin allowed w n f → IsRefusedKept allowed.older v g n f
      by_chosen f z = from_refusal allowed.older f (subst (λ (c : Choice). IsRefusalAsWithin allowed w n c f) (choices_agree w z.choice luks1 z.chosen chosen) z.fault)

      refused_there : (f : OpenFault) → IsRefusedKept allowed.older v g n f → IsRefusalWithin allowed w n f
      refused_there f z = record { choice = luks1; chosen = chosen; fault = to_refusal allowed.older f z }

      module _ (p : List ℕ) where
        key_there : (found : Option (List ℕ)) → GivesKept allowed.older v g n p found → OpensWithin allowed w n p found
        key_there found z = record {
          choice = luks1;
          chosen = chosen;
          plan = z.plan;
          is = plan_there says z.plan z.is;
          unrefused = λ f bad. z.unrefused f (from_refusal allowed.older f bad);
          key = ap (λ (b : List ℕ). slot_key z.plan b p) (same_bytes z.plan z.is) ∙ z.key;
        }

        key_here : (found : Option (List ℕ)) → OpensWithin allowed w n p found → GivesKept allowed.older v g n p found
        key_here found z =
            let choice : z.choice ≡ luks1 = choices_agree w z.choice luks1 z.chosen chosen in
            let its = plan_here says z.plan (subst (λ (c : Choice). HasPlanAs w n c z.plan) choice z.is) in
            record {
              plan = z.plan;
              is = its;
              unrefused = λ f bad. z.unrefused f (subst (λ (c : Choice). IsRefusalAsWithin allowed w n c f) (sym choice) (to_refusal allowed.older f bad));
              key = ap (λ (b : List ℕ). slot_key z.plan b p) (sym (same_bytes z.plan its)) ∙ z.key;
            }

        pub gives_there : (a : Opened) → Gives allowed.older v g n p a → AnswerWithin allowed w n p a
        gives_there (refused f) z = (refused_there f z.0, λ e bad. z.1 e (by_chosen e bad))
        gives_there (opens k) z = key_there (Some k) z
        gives_there no_key z = key_there None z

        pub gives_here : (a : Opened) → AnswerWithin allowed w n p a → Gives allowed.older v g n p a
        gives_here (refused f) z = (by_chosen f z.0, λ e bad. z.1 e (refused_there e bad))
        gives_here (opens k) z = key_here (Some k) z
        gives_here no_key z = key_here None z
