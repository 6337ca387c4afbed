-- What an edit brings about in a well formed volume, by what is proved of each version.
use Rattle.std.proofs.Common.{◌≡◌, ℕ, List, replicate, Ok, Err, None, refl, subst}
use Rattle.std.specs.Prelude.{OnOk}
use Rattle.luks_area.specs.declared.area.Area.{Area}
use Rattle.luks_area.specs.declared.area.AreaName.TheVariants.{Slot}
use Rattle.luks_area.specs.Ranges.{part}
use Rattle.luks2_header.specs.declared.selection.Copies.{Copies}
use Rattle.luks2_header.specs.Selection.{Choice, luks1, luks2, nothing, Chosen}
use Rattle.luks2_header.proofs.ChoiceFacts.{choices_agree}
use Rattle.luks_slot.specs.declared.allowed.Allowed.{Allowed}
use Rattle.luks_reading.specs.declared.report.Data.{Data}
use Rattle.luks_reading.specs.Checked.{AreaOf, WellFormed, WellFormedAs}
use Rattle.luks_edit.specs.declared.edit.Done.{Done}
use Rattle.luks_edit.specs.declared.edit.Edit.{Edit}
use Rattle.luks_edit.specs.declared.edit.Edit.TheVariants.{Add, AddByKey, Change, Remove, Erase, Repair, Label, Uuid, Amend}
use Rattle.luks_edit.specs.declared.edit.Opener.{Opener}
use Rattle.luks_edit.specs.declared.edit.Opener.TheVariants as opener
use Rattle.luks_edit.specs.Asked.{again_by, allowed_for, Loses}
use Rattle.luks_edit.specs.declared.edit_fault.EditFault.{EditFault}
use Rattle.luks_edit.specs.declared.edit_fault.EditFault.TheVariants as fault
use Rattle.luks_edit.specs.Kept.{IsShut}
use Rattle.luks_edit.specs.Ran.{Reply, IsFailure}
use Rattle.luks1_edits.specs.Edited.{OpensAfter1}
use Rattle.luks1_edits.specs.Leftovers.{Leftover1}
use Rattle.luks1_edits.specs.Refused.{IsUnrefused1}
use Rattle.luks2_edit_laws.specs.Edited.{HasRanges, OpensAfter2}
use Rattle.luks2_edit_laws.specs.Refused.{IsUnrefused2}
use Rattle.luks_volume.specs.Edits.{AfterAs, IsEditFault, IsUnrefused, LeftoverAs, Leftover, Makes, MakesAs, Replies}
use Rattle.luks_volume.specs.Outcome.{Gives, GivesAs, IsApplied, OpensMade, ShutsLost, Spares, SparesAs, WipesLost}
use Rattle.luks1_edits.proofs.EditedFacts.{leftover_answers, leftover_entries, leftover_faults, leftover_keeps, leftover_opens, leftover_rest as leftover_rest1, opens_after as opens_after1, removed_area}
use Rattle.luks1_edits.proofs.RefusalFacts.{leftover_refused as leftover_refused1}
use Rattle.luks1_edits.proofs.ShutFacts.{leftover_erased, removed_shut}
use Rattle.luks2_edit_laws.proofs.AfterFacts.{lost_shut, lost_zeros}
use Rattle.luks2_edit_laws.proofs.OpensFacts.{opens_after as opens_after2}
use Rattle.luks2_edit_laws.proofs.RefusalFacts.{leftover_refused as leftover_refused2}
use Rattle.luks2_edit_laws.proofs.TornFacts.{ErasesAll, leftover_outcome}
use Rattle.luks2_edit_laws.proofs.TouchedFacts.{leftover_rest as leftover_rest2}
use Rattle.luks_volume.proofs.CountFacts.{the_failure}
use Rattle.luks_volume.proofs.EditFacts.{edit_keeps}
use Rattle.luks_volume.proofs.VersionFacts.{fault_by}

-- the same edit of one version

unrefused1 : (v : List ℕ) (payload : Data) (e : Edit) (r : List ℕ) → Chosen v luks1 → IsUnrefused v payload e r → IsUnrefused1 v payload e r
unrefused1 v payload e r chosen fine = record { none = λ f is. fine.none f (record { choice = luks1; chosen = chosen; fault = is }) }

unrefused2 : (v : List ℕ) (payload : Data) (e : Edit) (r : List ℕ) (o : ℕ) (copies : Copies) → Chosen v (luks2 o copies) → IsUnrefused v payload e r → IsUnrefused2 v payload e r
unrefused2 v payload e r o copies chosen fine = record { none = λ f is. fine.none f (record { choice = luks2 o copies; chosen = chosen; fault = is }) }

makes_by : (v : List ℕ) (e : Edit) (c : Choice) (n : ℕ) → Chosen v c → Makes v e n → MakesAs v e c n
makes_by v e c n chosen x = subst (λ d. MakesAs v e d n) (choices_agree v x.choice c x.chosen chosen) x.makes

gives_by : (allowed : Allowed) (v : List ℕ) (o : Opener) (key : List ℕ) (c : Choice) → Chosen v c → Gives allowed v o key → GivesAs allowed v o key c
gives_by allowed v o key c chosen x = subst (GivesAs allowed v o key) (choices_agree v x.choice c x.chosen chosen) x.gives

opens_by1 : (v : List ℕ) (e : Edit) (w : List ℕ) → Chosen v luks1 → OpensAfter1 v e w → OpensMade v e w
opens_by1 v (Add by_ old new to iterations d) w chosen x = λ n key made given.
    let o : Opener = opener.Keyslot by_ old in
    x (allowed_for o new.now) n key (makes_by v (Add by_ old new to iterations d) luks1 n chosen made) (gives_by (allowed_for o new.now) v o key luks1 chosen given)
opens_by1 v (AddByKey own new to iterations d) w chosen x = λ n key made given.
    let o : Opener = opener.Key own in
    x (allowed_for o new.now) n key (makes_by v (AddByKey own new to iterations d) luks1 n chosen made) (gives_by (allowed_for o new.now) v o key luks1 chosen given)
opens_by1 v (Change slot old new iterations d) w chosen x = λ n key made given.
    let o : Opener = opener.Keyslot slot old in
    x (allowed_for o new.now) n key (makes_by v (Change slot old new iterations d) luks1 n chosen made) (gives_by (allowed_for o new.now) v o key luks1 chosen given)
opens_by1 v (Remove slot by_ passphrase) w chosen x = tt
opens_by1 v Erase w chosen x = tt
opens_by1 v Repair w chosen x = tt
opens_by1 v (Label text subsystem) w chosen x = tt
opens_by1 v (Uuid uuid) w chosen x = tt
opens_by1 v (Amend c) w chosen x = tt

opens_by2 : (v : List ℕ) (e : Edit) (w : List ℕ) (o : ℕ) (copies : Copies) → Chosen v (luks2 o copies) → OpensAfter2 v e w → OpensMade v e w
opens_by2 v (Add by_ old new to iterations d) w o copies chosen x = λ n key made given.
    x n key (makes_by v (Add by_ old new to iterations d) (luks2 o copies) n chosen made)
    (gives_by (allowed_for (opener.Keyslot by_ old) new.now) v (opener.Keyslot by_ old) key (luks2 o copies) chosen given)
opens_by2 v (AddByKey own new to iterations d) w o copies chosen x = λ n key made given.
    x n key (makes_by v (AddByKey own new to iterations d) (luks2 o copies) n chosen made) (gives_by (allowed_for (opener.Key own) new.now) v (opener.Key own) key (luks2 o copies) chosen given)
opens_by2 v (Change slot old new iterations d) w o copies chosen x = λ n key made given.
    let is : n ≡ slot = makes_by v (Change slot old new iterations d) (luks2 o copies) n chosen made in
    rw is (x key (gives_by (allowed_for (opener.Keyslot slot old) new.now) v (opener.Keyslot slot old) key (luks2 o copies) chosen given))
opens_by2 v (Remove slot by_ passphrase) w o copies chosen x = tt
opens_by2 v Erase w o copies chosen x = tt
opens_by2 v Repair w o copies chosen x = tt
opens_by2 v (Label text subsystem) w o copies chosen x = tt
opens_by2 v (Uuid uuid) w o copies chosen x = tt
opens_by2 v (Amend c) w o copies chosen x = tt

-- a completed edit

opens_as : (payload : Data) (e : Edit) (v random w : List ℕ) (c : Choice) → Chosen v c → WellFormed v payload → HasRanges v e random
    → IsUnrefused v payload e random → AfterAs v payload e random c w → OpensMade v e w
opens_as payload e v random w luks1 chosen well ranges fine after =
    opens_by1 v e w chosen (opens_after1 payload v chosen well e random w (unrefused1 v payload e random chosen fine) after)
opens_as payload e v random w (luks2 o copies) chosen well ranges fine after =
    opens_by2 v e w o copies chosen (opens_after2 v payload random w well e ranges (unrefused2 v payload e random o copies chosen fine) after)
opens_as payload e v random w nothing chosen well ranges fine after = absurd after

edit_opens : (payload : Data) (v w : List ℕ) (e : Edit) (random : List ℕ) (r : Reply) → WellFormed v payload
    → Replies payload v e random r w → OnOk r (OpensMade v e w)
edit_opens payload v w e random (Ok done) well is = opens_as payload e v random w is.3.choice is.3.chosen well is.0 is.1 is.3.after
edit_opens payload v w e random (Err f) well is = tt

wipes_as : (payload : Data) (e : Edit) (v random w : List ℕ) (c : Choice) → Chosen v c → WellFormed v payload → AfterAs v payload e random c w → WipesLost v payload e w
wipes_as payload e v random w luks1 chosen well after = record { zeros = λ n a lost is. removed_area payload v chosen well e random w n a after lost is }
wipes_as payload e v random w (luks2 o copies) chosen well after = record { zeros = λ n a lost is. lost_zeros v payload e random w n a well after lost is }
wipes_as payload e v random w nothing chosen well after = absurd after

edit_wipes : (payload : Data) (v w : List ℕ) (e : Edit) (random : List ℕ) (r : Reply) → WellFormed v payload
    → Replies payload v e random r w → OnOk r (WipesLost v payload e w)
edit_wipes payload v w e random (Ok done) well is = wipes_as payload e v random w is.3.choice is.3.chosen well is.3.after
edit_wipes payload v w e random (Err f) well is = tt

-- of LUKS2 a keyslot that is lost and isn't made isn't sealed again
not_again : (v : List ℕ) (e : Edit) (n o : ℕ) (copies : Copies) → Chosen v (luks2 o copies) → Loses e n → (Makes v e n → ⊥) → again_by e ≡ None
not_again v (Add by_ old new to iterations d) n o copies chosen lost unmade = refl
not_again v (AddByKey key new to iterations d) n o copies chosen lost unmade = refl
not_again v (Change slot old new iterations d) n o copies chosen lost unmade = absurd (unmade (record { choice = luks2 o copies; chosen = chosen; makes = lost }))
not_again v (Remove slot by_ passphrase) n o copies chosen lost unmade = refl
not_again v Erase n o copies chosen lost unmade = refl
not_again v Repair n o copies chosen lost unmade = refl
not_again v (Label text subsystem) n o copies chosen lost unmade = refl
not_again v (Uuid uuid) n o copies chosen lost unmade = refl
not_again v (Amend c) n o copies chosen lost unmade = refl

shuts_as : (payload : Data) (e : Edit) (v random w : List ℕ) (c : Choice) → Chosen v c → WellFormed v payload → HasRanges v e random
    → IsUnrefused v payload e random → AfterAs v payload e random c w → ShutsLost v e w
shuts_as payload e v random w luks1 chosen well ranges fine after = λ n lost unmade.
    removed_shut payload v chosen well e random w n (unrefused1 v payload e random chosen fine) after lost
shuts_as payload e v random w (luks2 o copies) chosen well ranges fine after = λ n lost unmade.
    lost_shut v payload e random w n well ranges (unrefused2 v payload e random o copies chosen fine) after (not_again v e n o copies chosen lost unmade) lost
shuts_as payload e v random w nothing chosen well ranges fine after = absurd after

edit_shuts : (payload : Data) (v w : List ℕ) (e : Edit) (random : List ℕ) (r : Reply) → WellFormed v payload
    → Replies payload v e random r w → OnOk r (ShutsLost v e w)
edit_shuts payload v w e random (Ok done) well is = shuts_as payload e v random w is.3.choice is.3.chosen well is.0 is.1 is.3.after
edit_shuts payload v w e random (Err f) well is = tt

-- an edit that a fault refuses

left_refused : (payload : Data) (e : Edit) (v random w : List ℕ) (f : EditFault) (c : Choice) → Chosen v c → IsEditFault v payload e random f
    → LeftoverAs v payload e random c w → w ≡ v
left_refused payload e v random w f luks1 chosen is left = leftover_refused1 v payload e random w f (fault_by v payload e luks1 chosen random f is) left
left_refused payload e v random w f (luks2 o copies) chosen is left =
    leftover_refused2 v payload e random w f (fault_by v payload e (luks2 o copies) chosen random f is) left
left_refused payload e v random w f nothing chosen is left = left

-- it changes nothing, whatever is replied
edit_refused : (payload : Data) (v w : List ℕ) (e : Edit) (random : List ℕ) (r : Reply) → Replies payload v e random r w
    → (f : EditFault) → IsEditFault v payload e random f → w ≡ v
edit_refused payload v w e random (Ok done) is f bad = absurd (is.1.none f bad)
edit_refused payload v w e random (Err fault.Device) is f bad = left_refused payload e v random w f is.choice is.chosen bad is.left
edit_refused payload v w e random (Err g) is f bad = is.1

-- an edit in which a device call failed

well_chosen : (v : List ℕ) (payload : Data) → WellFormed v payload → Chosen v nothing → ⊥
well_chosen v payload well none = subst (λ c. WellFormedAs v payload c) (choices_agree v well.choice nothing well.chosen none) well.formed

spares_as : (payload : Data) (e : Edit) (v random w : List ℕ) (c : Choice) → Chosen v c → WellFormed v payload → HasRanges v e random
    → LeftoverAs v payload e random c w → SparesAs v payload e random c w
spares_as payload e v random w luks1 chosen well ranges left = record {
  rest = leftover_rest1 payload v chosen well e random w left;
  entries = leftover_entries payload v chosen well e random w left;
  keeps = leftover_keeps payload v chosen well e random w left;
  faults = leftover_faults payload v chosen well e random w left;
  answers = leftover_answers payload v chosen well e random w left;
  opens_either = leftover_opens payload v chosen well e random w left;
  erased = λ is. leftover_erased payload v chosen well random w (subst (λ d. Leftover1 v payload d random w) is left);
}
spares_as payload e v random w (luks2 o copies) chosen well ranges left = record {
  rest = leftover_rest2 v payload e random w left;
  whole = λ stray.
      let x = leftover_outcome v payload e random w well ranges left stray in
      record { keeps = x.keeps; counts = x.whole; opens_either = x.opens_either; erased = λ is. subst (λ d. ErasesAll payload v d w) is x.erases_all };
}
spares_as payload e v random w nothing chosen well ranges left = well_chosen v payload well chosen

edit_spares : (payload : Data) (v w : List ℕ) (e : Edit) (random : List ℕ) (r : Reply) → WellFormed v payload → HasRanges v e random
    → IsFailure r → Replies payload v e random r w → Spares v payload e random w
edit_spares payload v w e random r well ranges failed is =
    let left : Leftover v payload e random w = subst (λ q. Replies payload v e random q w) (the_failure r failed) is in
    record {
      choice = left.choice;
      chosen = left.chosen;
      refused = edit_refused payload v w e random r is;
      spared = spares_as payload e v random w left.choice left.chosen well ranges left.left;
    }

-- ---- an erasure

-- it makes no keyslot, and so each opens no more
pub erased_shut : (payload : Data) (v random w : List ℕ) (done : Done) → WellFormed v payload → Replies payload v Erase random (Ok done) w → (n : ℕ) → IsShut w n
erased_shut payload v random w done well is n = edit_shuts payload v w Erase random (Ok done) well is n tt (λ made. made.makes)

-- each area that a keyslot had is zeros
pub erased_zeros : (payload : Data) (v random w : List ℕ) (done : Done) (n : ℕ) (a : Area) → WellFormed v payload → Replies payload v Erase random (Ok done) w
    → AreaOf v payload (Slot n) a → part w a.start a.len ≡ replicate a.len 0
erased_zeros payload v random w done n a well is has = (edit_wipes payload v w Erase random (Ok done) well is).zeros n a tt has

-- ---- an edit as a whole, by its reply

pub applied_by : (payload : Data) (v : List ℕ) (e : Edit) (random : List ℕ) (r : Reply) (w : List ℕ) → HasRanges v e random
    → Replies payload v e random r w → IsApplied payload v e random r w
applied_by payload v e random r w ranges is = record {
  replies = is;
  keeps = λ well fine. edit_keeps payload v w e random r well is fine;
  opens = λ well. edit_opens payload v w e random r well is;
  wiped = λ well. edit_wipes payload v w e random r well is;
  shut = λ well. edit_shuts payload v w e random r well is;
  refused = edit_refused payload v w e random r is;
  spared = λ well failed. edit_spares payload v w e random r well ranges failed is;
}
