-- A list of edits that the device's failure stopped: the volume that the failing step met, and what is
-- left of it.
use Rattle.std.proofs.Common.{◌≡◌, ◌⊎◌, ℕ, ◌+◌, ◌<◌, List, [], ◌∷◌, ◌++◌, length, take, drop, get_or, Err, refl, sym, ap, ◌∙◌, subst, append_assoc, append-nil, take-append-drop, inl, inr}
use Rattle.std.proofs.lemmas.List.{drop_more, take_more}
use Rattle.luks_area.specs.declared.area.AreaName.TheVariants.{Segment}
use Rattle.luks2_header.specs.Selection.{Choice, luks1, luks2, nothing, Chosen}
use Rattle.luks_reading.specs.declared.report.Data.{Data}
use Rattle.luks_reading.specs.Checked.{WellFormed}
use Rattle.luks_edit.specs.declared.edit.Edit.{Edit}
use Rattle.luks_edit.specs.declared.edit.Step.{Step}
use Rattle.luks_edit.specs.declared.edit_fault.EditFault.TheVariants as fault
use Rattle.luks_edit.specs.Kept.{Keeps}
use Rattle.luks_edit.specs.Ran.{AreRun, HasNoFailure, IsFailure, IsNamedIn, Reply, Replying}
use Rattle.luks1_edits.specs.Kept.{KeepsOthers}
use Rattle.luks_volume.specs.Edits.{NamedSlots, Replies}
use Rattle.luks_volume.specs.Outcome.{IsUnstray, Spares, SparesAs}
use Rattle.luks_volume.specs.Running.{IsSparedByRun}
use Rattle.luks_volume.proofs.CountFacts.{none_then, the_failure}
use Rattle.luks_volume.proofs.EditFacts.{edits_keep}
use Rattle.luks_volume.proofs.RanFacts.{area_then, slot_then}

-- ---- the steps that were run

-- the first `k` steps were run from the volume `v` to `u`, and the device failed in none
pub record AreRunSoFar (R : Replying) (v u : List ℕ) (steps : List Step) (k : ℕ) (before now : List Reply) : Type 0 where
  pub replies : List Reply
  pub volumes : List (List ℕ)
  pub appended : now ≡ before ++ replies
  pub fine : HasNoFailure replies
  pub run : AreRun R v (take k steps) replies volumes u

module _ (R : Replying) where
  -- a step that is run behind a list of them
  run_then : (ss : List Step) (rs : List Reply) (us : List (List ℕ)) (v u w : List ℕ) (s : Step) (r : Reply) → AreRun R v ss rs us u → HasNoFailure rs
      → R u s.edit s.random.now r w → (IsFailure r → ⊥) → AreRun R v (ss ++ s ∷ []) (rs ++ r ∷ []) (us ++ w ∷ []) w
  run_then [] [] [] v u w s r run fine is last = (subst (λ x. R x s.edit s.random.now r w) run is, inl (last, refl))
  run_then [] [] (x ∷ us) v u w s r run fine is last = absurd run
  run_then [] (q ∷ rs) us v u w s r run fine is last = absurd run
  run_then (t ∷ ss) [] us v u w s r run fine is last = absurd run
  run_then (t ∷ ss) (q ∷ rs) [] v u w s r run fine is last = absurd run
  run_then (t ∷ ss) (q ∷ rs) (x ∷ us) v u w s r run fine is last = elim run.1 [
    | inl on ↦ (run.0, inl (fine.0, run_then ss rs us x u w s r on.1 fine.1 is last))
    | inr stop ↦ absurd (fine.0 stop.0)
  ]

  pub so_far_none : (v : List ℕ) (steps : List Step) (before : List Reply) → AreRunSoFar R v v steps 0 before before
  so_far_none v steps before = record { replies = []; volumes = []; appended = sym (append-nil before); fine = tt; run = refl }

  pub so_far_more : (v u w : List ℕ) (steps : List Step) (k : ℕ) (before now : List Reply) (d : Step) (r : Reply)
      → k < length steps → R u (get_or steps k d).edit (get_or steps k d).random.now r w → (IsFailure r → ⊥)
      → AreRunSoFar R v u steps k before now → AreRunSoFar R v w steps (k + 1) before (now ++ r ∷ [])
  so_far_more v u w steps k before now d r lt is last x = record {
    replies = x.replies ++ r ∷ [];
    volumes = x.volumes ++ w ∷ [];
    appended = ap (λ rs. rs ++ r ∷ []) x.appended ∙ append_assoc before x.replies (r ∷ []);
    fine = none_then x.replies r x.fine last;
    run = subst (λ (ss : List Step). AreRun R v ss (x.replies ++ r ∷ []) (x.volumes ++ w ∷ []) w) (sym (take_more steps k d lt))
        (run_then (take k steps) x.replies x.volumes v u w (get_or steps k d) r x.run x.fine is last);
  }

-- ---- what the failing step leaves

-- the segments, and each keyslot that the failing edit doesn't name
spared_others : (v : List ℕ) (payload : Data) (e : Edit) (random w : List ℕ) (c : Choice) → Chosen v c → SparesAs v payload e random c w
    → IsUnstray v payload e random w → KeepsOthers payload (NamedSlots v e) v w
spared_others v payload e random w luks1 chosen x unstray =
    let kept = x.keeps (unstray.uuid chosen) in
    record {
      size = kept.size;
      segments = kept.segments;
      slots = λ n not. kept.slots n (λ is. not (record { choice = luks1; chosen = chosen; named = is }));
    }
spared_others v payload e random w (luks2 o copies) chosen x unstray =
    let kept = (x.whole (unstray.header o copies chosen)).keeps in
    record {
      size = kept.size;
      segments = kept.segments;
      slots = λ n not. kept.slots n (λ is. not (record { choice = luks2 o copies; chosen = chosen; named = is }));
    }
spared_others v payload e random w nothing chosen x unstray = absurd x

-- and of the volume that the list met those that no completed edit named either
others_then : (payload : Data) (first second : ℕ → Type 0) (v u w : List ℕ) → Keeps payload first v u → KeepsOthers payload second u w
    → KeepsOthers payload (λ n. first n ⊎ second n) v w
others_then payload first second v u w x y = record {
  size = y.size ∙ x.size;
  segments = λ n. area_then payload (Segment n) v u w (x.segments n) (y.segments n);
  slots = λ n not. slot_then payload n v u w (x.slots n (λ is. not (inl is))) (y.slots n (λ is. not (inr is)));
}

pub spared_by_run : (payload : Data) (v u w : List ℕ) (steps : List Step) (k : ℕ) (before now : List Reply) (d : Step) (r : Reply) → k < length steps → WellFormed v payload
    → IsFailure r → (WellFormed u payload → Spares u payload (get_or steps k d).edit (get_or steps k d).random.now w)
    → AreRunSoFar (Replies payload) v u steps k before now → IsSparedByRun payload v steps before (now ++ r ∷ []) w
spared_by_run payload v u w steps k before now d r lt well failed spared x =
    let step : Step = get_or steps k d in
    let kept : Keeps payload (IsNamedIn NamedSlots v (take k steps) x.replies x.volumes) v u =
    edits_keep payload (take k steps) x.replies x.volumes v u well x.run x.fine in
    let spares : Spares u payload step.edit step.random.now w = spared kept.well in
    record {
      firsts = take k steps;
      step = step;
      left = drop (k + 1) steps;
      steps_are = sym (take-append-drop k steps) ∙ ap (λ ss. take k steps ++ ss) (drop_more steps k d lt);
      replies = x.replies;
      volumes = x.volumes;
      appended = ap (λ q. now ++ q ∷ []) (the_failure r failed) ∙ ap (λ rs. rs ++ Err fault.Device ∷ []) x.appended;
      fine = x.fine;
      met = u;
      run = x.run;
      keeps = kept;
      spares = spares;
      others = λ unstray. others_then payload (IsNamedIn NamedSlots v (take k steps) x.replies x.volumes) (NamedSlots u step.edit) v u w kept
          (spared_others u payload step.edit step.random.now w spares.choice spares.chosen spares.spared unstray);
    }
