-- A list of edits, step by step.
use Rattle.std.proofs.Common.{◌≡◌, ℕ, ◌+◌, ◌<◌, ◌≤◌, List, [], ◌∷◌, ◌++◌, length, drop, get_or, refl, sym, ap, ◌∙◌, subst, append_assoc, append-nil, inl, inr}
use Rattle.std.proofs.lemmas.List.{drop_more}
use Rattle.std.proofs.Math.ListN.{drop_of_length-le}
use Rattle.luks_edit.specs.declared.edit.Step.{Step}
use Rattle.luks_edit.specs.Ran.{AreRun, IsFailure, Ran, Reply, Replying}
use Rattle.luks_reading.specs.declared.report.Data.{Data}
use Rattle.luks_reading.specs.Checked.{WellFormed}
use Rattle.luks_volume.specs.Edits.{Replies}
use Rattle.luks_volume.specs.Running.{IsKeptByRun, IsUnderWay}
use Rattle.luks_volume.proofs.EditFacts.{edits_keep}

module _ (R : Replying) where
  -- nothing was run yet
  pub run_starts : (v : List ℕ) (steps : List Step) (before : List Reply) → IsUnderWay R v v steps 0 before before
  run_starts v steps before = record { replies = []; volumes = []; appended = sym (append-nil before); goes_on = λ rs us w run. run }

  -- one step more
  pub run_more : (v u w : List ℕ) (steps : List Step) (k : ℕ) (before now : List Reply) (d : Step) (r : Reply)
      → k < length steps → R u (get_or steps k d).edit (get_or steps k d).random.now r w → (IsFailure r → ⊥)
      → IsUnderWay R v u steps k before now → IsUnderWay R v w steps (k + 1) before (now ++ r ∷ [])
  run_more v u w steps k before now d r lt is fine x =
      let left : drop k steps ≡ get_or steps k d ∷ drop (k + 1) steps = drop_more steps k d lt in
      record {
        replies = x.replies ++ r ∷ [];
        volumes = x.volumes ++ w ∷ [];
        appended = ap (λ rs. rs ++ r ∷ []) x.appended ∙ append_assoc before x.replies (r ∷ []);
        goes_on = λ rs us z run.
            subst (λ (vs : List (List ℕ)). AreRun R v steps ((x.replies ++ r ∷ []) ++ rs) vs z) (sym (append_assoc x.volumes (w ∷ []) us))
            (subst (λ (ts : List Reply). AreRun R v steps ts (x.volumes ++ w ∷ us) z) (sym (append_assoc x.replies (r ∷ []) rs))
            (x.goes_on (r ∷ rs) (w ∷ us) z (subst (λ (ss : List Step). AreRun R u ss (r ∷ rs) (w ∷ us) z) (sym left) (is, inl (fine, run)))));
      }

  -- the device failed in a step, and no further one was run
  pub run_stops : (v u w : List ℕ) (steps : List Step) (k : ℕ) (before now : List Reply) (d : Step) (r : Reply)
      → k < length steps → R u (get_or steps k d).edit (get_or steps k d).random.now r w → IsFailure r
      → IsUnderWay R v u steps k before now → Ran R v steps before (now ++ r ∷ []) w
  run_stops v u w steps k before now d r lt is failed x =
      let left : drop k steps ≡ get_or steps k d ∷ drop (k + 1) steps = drop_more steps k d lt in
      record {
        replies = x.replies ++ r ∷ [];
        volumes = x.volumes ++ w ∷ [];
        appended = ap (λ rs. rs ++ r ∷ []) x.appended ∙ append_assoc before x.replies (r ∷ []);
        run = x.goes_on (r ∷ []) (w ∷ []) w (subst (λ (ss : List Step). AreRun R u ss (r ∷ []) (w ∷ []) w) (sym left) (is, inr (failed, refl, refl, refl)));
      }

  -- all steps were run
  pub run_ends : (v u : List ℕ) (steps : List Step) (k : ℕ) (before now : List Reply) → length steps ≤ k
      → IsUnderWay R v u steps k before now → Ran R v steps before now u
  run_ends v u steps k before now over x =
      let nothing : drop k steps ≡ [] = drop_of_length-le steps over in
      record {
        replies = x.replies;
        volumes = x.volumes;
        appended = x.appended;
        run = subst (λ (vs : List (List ℕ)). AreRun R v steps x.replies vs u) (append-nil x.volumes)
            (subst (λ (ts : List Reply). AreRun R v steps ts (x.volumes ++ []) u) (append-nil x.replies)
            (x.goes_on [] [] u (subst (λ (ss : List Step). AreRun R u ss [] [] u) (sym nothing) refl)));
      }

-- what a list that was run keeps
pub kept_by_run : (payload : Data) (v : List ℕ) (steps : List Step) (before after : List Reply) (w : List ℕ) → WellFormed v payload
    → Ran (Replies payload) v steps before after w → IsKeptByRun payload v steps before after w
kept_by_run payload v steps before after w well x = record {
  replies = x.replies;
  volumes = x.volumes;
  appended = x.appended;
  run = x.run;
  keeps = λ fine. edits_keep payload steps x.replies x.volumes v w well x.run fine;
}
