-- Keyslots that open by no passphrase: those that were removed, and those that a header of LUKS1 hasn't.
use Rattle.std.proofs.Common.{◌≡◌, ℕ, ◌<◌, ◌≤◌, List, subst, refl, sym, ap, ◌∙◌, arith, inl, inr}
use Rattle.std.proofs.lemmas.Bool.{cases_lt}
use Rattle.luks_area.specs.Ranges.{part}
use Rattle.luks1_header.specs.Header1.{active_word, disabled_word, entry}
use Rattle.luks2_header.specs.Selection.{luks1, Chosen}
use Rattle.luks2_header.proofs.ChoiceFacts.{choices_agree}
use Rattle.luks_reading.specs.declared.open_fault.OpenFault.TheVariants.{NoSuchSlot, SlotFree}
use Rattle.luks_reading.specs.declared.report.Data.{Data}
use Rattle.luks_reading.specs.Answer.{IsRefusalAsWithin}
use Rattle.luks_reading.specs.Checked.{WellFormed}
use Rattle.luks_edit.specs.declared.edit.Edit.{Edit}
use Rattle.luks_edit.specs.declared.edit.Edit.TheVariants.{Add, AddByKey, Change, Remove, Erase, Repair, Label, Uuid, Amend}
use Rattle.luks_edit.specs.Asked.{Loses}
use Rattle.luks_edit.specs.Kept.{IsShut}
use Rattle.luks1_edits.specs.Edited.{After1}
use Rattle.luks1_edits.specs.Kept.{AreKeyslots}
use Rattle.luks1_edits.specs.Leftovers.{AreErasedInTurn, Leftover1}
use Rattle.luks1_edits.specs.Places.{area_len, area_start}
use Rattle.luks1_edits.specs.Refused.{IsUnrefused1}
use Rattle.luks1_edits.proofs.EditedFacts.{changes_of, leaves, named_numbered, nothing_left}
use Rattle.luks1_edits.proofs.HeaderFacts.{entry_is, volume_of}
use Rattle.luks1_edits.proofs.KeptFacts.{keeps_others, kept_common, luks1_after}

-- one that is disabled
free_shut : (w : List ℕ) (n : ℕ) → Chosen w luks1 → n < 8 → active_word (entry w n) ≡ disabled_word → IsShut w n
free_shut w n chosen lt off = λ allowed p key x.
    x.unrefused SlotFree (subst (λ c. IsRefusalAsWithin allowed w n c SlotFree) (choices_agree w luks1 x.choice chosen x.chosen) (lt, ap active_word (entry_is w n lt) ∙ off))

-- one past the last
past_shut : (w : List ℕ) (n : ℕ) → Chosen w luks1 → 8 ≤ n → IsShut w n
past_shut w n chosen past = λ allowed p key x.
    x.unrefused NoSuchSlot (subst (λ c. IsRefusalAsWithin allowed w n c NoSuchSlot) (choices_agree w luks1 x.choice chosen x.chosen) past)

module _ (payload : Data) (v : List ℕ) (chosen : Chosen v luks1) (well : WellFormed v payload) where
  -- after an edit that removes it
  pub removed_shut : (e : Edit) (r w : List ℕ) (n : ℕ) → IsUnrefused1 v payload e r → After1 v e r w → Loses e n → IsShut w n
  removed_shut (Add by_ old new to iterations d) r w n free x is = absurd is
  removed_shut (AddByKey key new to iterations d) r w n free x is = absurd is
  removed_shut (Change slot old new iterations d) r w n free x is =
      let c : Edit = Change slot old new iterations d in
      subst (λ k. IsShut w k) (sym is) (free_shut w slot (leaves payload v chosen well c r w free x).chosen (named_numbered v payload c r free slot (inl refl)) x.freed.disabled)
  removed_shut Erase r w n free x is =
      let after : Chosen w luks1 = (leaves payload v chosen well Erase r w free x).chosen in
      elim (cases_lt n 8) [ inl lt ↦ free_shut w n after lt (x.freed n lt).disabled | inr past ↦ past_shut w n after past ]
  removed_shut (Remove slot by_ passphrase) r w n free x is =
      let c : Edit = Remove slot by_ passphrase in
      subst (λ k. IsShut w k) (sym is) (free_shut w slot (leaves payload v chosen well c r w free x).chosen (named_numbered v payload c r free slot refl) x.freed.disabled)
  removed_shut Repair r w n free x is = absurd is
  removed_shut (Label text subsystem) r w n free x is = absurd is
  removed_shut (Uuid uuid) r w n free x is = absurd is
  removed_shut (Amend c) r w n free x is = absurd is

  -- where all were to be, and the device failed
  pub leftover_erased : (r w : List ℕ) → Leftover1 v payload Erase r w → AreErasedInTurn payload v w
  leftover_erased r w (inl same) = record {
    slot = 0;
    shut = λ n low. absurd (omega (arith, low));
    wiped = λ n low. absurd (omega (arith, low));
    order = inl (ap (λ u. part u (area_start v 0) (area_len v 0)) same);
    above = λ n over. (nothing_left payload v chosen well (λ m. ⊥) w same).others.slots n (λ is. is);
  }
  leftover_erased r w (inr both) =
      let x = both.1 in
      let last = x.numbered in
      let keyslots : AreKeyslots (λ n. n ≤ x.slot) = record { numbered = λ n low. omega (arith, low, last) } in
      let c = changes_of payload v chosen well (λ n. n ≤ x.slot) w keyslots x.rest in
      let common = kept_common v payload (volume_of v payload chosen well).fit w (λ n. n ≤ x.slot) keyslots x.rest in
      record {
        slot = x.slot;
        shut = λ n low. free_shut w n (luks1_after payload (λ n. n ≤ x.slot) v w c) (omega (arith, low, last)) (x.freed n low).disabled;
        wiped = x.wiped;
        order = x.order;
        above = λ n over. (keeps_others payload (λ n. n ≤ x.slot) v w c common).slots n (λ low. omega (arith, low, over));
      }
