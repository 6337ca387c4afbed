-- A list of edits: under way, and what is told of it when it ends.
use Rattle.std.specs.Prelude.{◌≡◌, ℕ, ◌+◌, ◌≤◌, ◌⊎◌, List, [], ◌∷◌, ◌++◌, drop, length, Err}
use Rattle.luks_reading.specs.declared.report.Data.{Data}
use Rattle.luks_edit.specs.declared.edit.Step.{Step}
use Rattle.luks_edit.specs.declared.edit_fault.EditFault.TheVariants.{Device}
use Rattle.luks_edit.specs.Kept.{Keeps}
use Rattle.luks_edit.specs.Ran.{AreRun, HasNoFailure, IsNamedIn, Reply, Replying}
use Rattle.luks1_edits.specs.Kept.{KeepsOthers}
use Rattle.luks_volume.specs.Edits.{NamedSlots, Replies}
use Rattle.luks_volume.specs.Outcome.{IsUnstray, Spares}

-- the first `k` steps were run from the volume `v` to `u`: whatever a run of the others leaves, the
-- whole run leaves
pub record IsUnderWay
    (R : Replying) (v u : List ℕ) (steps : List Step) (k : ℕ) (before now : List Reply)
    : Type 0 where
  pub replies : List Reply
  pub volumes : List (List ℕ)
  pub appended : now ≡ before ++ replies
  pub goes_on : (rs : List Reply) (us : List (List ℕ)) (w : List ℕ)
      → AreRun R u (drop k steps) rs us w
      → AreRun R v steps (replies ++ rs) (volumes ++ us) w

-- ---- on any device: which steps have a reply, of `count` steps

-- each has one, and the device failed in none
pub record AreAllReplied (count : ℕ) (replies : List Reply) : Type 0 where
  pub each : length replies ≡ count
  pub fine : HasNoFailure replies

-- the device failed in the last step that has one, and in no step before
pub record AreCutShort (count : ℕ) (replies : List Reply) : Type 0 where
  pub others : List Reply
  pub last : replies ≡ others ++ Err Device ∷ []
  pub fine : HasNoFailure others
  pub within : length replies ≤ count

-- replies were appended; the device's count of failures rose by one exactly where the last of them
-- is its failure
pub record CountsRun
    (count : ℕ) (before after : List Reply) (failures failures_after : ℕ)
    : Type 0 where
  pub replies : List Reply
  pub appended : after ≡ before ++ replies
  pub counted : (AreAllReplied count replies × (failures_after ≡ failures))
      ⊎ (AreCutShort count replies × (failures_after ≡ failures + 1))

-- ---- on a device that tells its bytes

-- the steps were run from the well formed volume `v` to `w`, and their replies appended; unless the
-- device failed, `w` keeps all that no completed edit named
pub record IsKeptByRun
    (payload : Data) (v : List ℕ) (steps : List Step) (before after : List Reply) (w : List ℕ)
    : Type 0 where
  pub replies : List Reply
  pub volumes : List (List ℕ)
  pub appended : after ≡ before ++ replies
  pub run : AreRun (Replies payload) v steps replies volumes w
  pub keeps : HasNoFailure replies
      → Keeps payload (IsNamedIn NamedSlots v steps replies volumes) v w

-- the steps were run from the well formed volume `v` until the device failed in `step`, which left `w`:
-- the steps before it left the volume `met`, which keeps all that no completed edit named, and the
-- failing step spared of `met` what an edit alone spares. So the segments are as in `v`, and so is
-- each keyslot that neither a completed edit nor the failing one names
pub record IsSparedByRun
    (payload : Data) (v : List ℕ) (steps : List Step) (before after : List Reply) (w : List ℕ)
    : Type 0 where
  pub firsts : List Step
  pub step : Step
  pub left : List Step
  pub steps_are : steps ≡ firsts ++ step ∷ left
  pub replies : List Reply
  pub volumes : List (List ℕ)
  pub appended : after ≡ before ++ replies ++ Err Device ∷ []
  pub fine : HasNoFailure replies
  pub met : List ℕ
  pub run : AreRun (Replies payload) v firsts replies volumes met
  pub keeps : Keeps payload (IsNamedIn NamedSlots v firsts replies volumes) v met
  pub spares : Spares met payload step.edit step.random.now w
  pub others : IsUnstray met payload step.edit step.random.now w
      → KeepsOthers payload (λ n. IsNamedIn NamedSlots v firsts replies volumes n
      ⊎ NamedSlots met step.edit n) v w
