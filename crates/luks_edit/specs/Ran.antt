-- What a list of edits leaves: each reply is that of its edit at the volume that it met.
use Rattle.std.specs.Prelude.{◌≡◌, ℕ, ◌⊎◌, List, [], ◌∷◌, ◌++◌, Result, Ok, Err, ⊤}
use Rattle.luks_edit.specs.declared.edit.Done.{Done}
use Rattle.luks_edit.specs.declared.edit.Edit.{Edit}
use Rattle.luks_edit.specs.declared.edit.Step.{Step}
use Rattle.luks_edit.specs.declared.edit_fault.EditFault.{EditFault}
use Rattle.luks_edit.specs.declared.edit_fault.EditFault.TheVariants.{Device}

abbrev pub Reply : Type 0
Reply = Result Done EditFault

-- what an edit with its random bytes may reply at a volume, and the volume that it leaves
abbrev pub Replying : Type 1
Replying = List ℕ → Edit → List ℕ → Reply → List ℕ → Type 0

-- the device failed
abbrev pub IsFailure : Reply → Type 0
IsFailure (Ok done) = ⊥
IsFailure (Err Device) = ⊤
IsFailure (Err f) = ⊥

abbrev pub IsCompleted : Reply → Type 0
IsCompleted (Ok done) = ⊤
IsCompleted (Err f) = ⊥

-- the steps, one after the other from the volume `v` on, had these replies, left these volumes, and
-- `w` in the end; after the device's failure there is no further one
abbrev pub AreRun : Replying → List ℕ → List Step → List Reply → List (List ℕ) → List ℕ → Type 0
AreRun R v [] [] [] w = w ≡ v
AreRun R v [] [] (u ∷ us) w = ⊥
AreRun R v [] (r ∷ rs) us w = ⊥
AreRun R v (s ∷ ss) [] us w = ⊥
AreRun R v (s ∷ ss) (r ∷ rs) [] w = ⊥
AreRun R v (s ∷ ss) (r ∷ rs) (u ∷ us) w = R v s.edit s.random.now r u
    × (((IsFailure r → ⊥) × AreRun R u ss rs us w) ⊎ (IsFailure r × (rs ≡ []) × (us ≡ []) × (w ≡ u)))

-- the steps were run from the volume `v` to the volume `w`, and their replies appended
pub record Ran (R : Replying) (v : List ℕ) (steps : List Step) (before after : List Reply) (w : List ℕ) : Type 0 where
  pub replies : List Reply
  pub volumes : List (List ℕ)
  pub appended : after ≡ before ++ replies
  pub run : AreRun R v steps replies volumes w

-- which keyslots an edit names at a volume
abbrev pub Naming : Type 1
Naming = List ℕ → Edit → ℕ → Type 0

-- a completed edit of the list names the keyslot `n`, at the volume that it met
abbrev pub IsNamedIn : Naming → List ℕ → List Step → List Reply → List (List ℕ) → ℕ → Type 0
IsNamedIn N v [] rs us n = ⊥
IsNamedIn N v (s ∷ ss) [] us n = ⊥
IsNamedIn N v (s ∷ ss) (r ∷ rs) [] n = ⊥
IsNamedIn N v (s ∷ ss) (r ∷ rs) (u ∷ us) n = (IsCompleted r × N v s.edit n) ⊎ IsNamedIn N u ss rs us n

-- the device failed in no step
abbrev pub HasNoFailure : List Reply → Type 0
HasNoFailure [] = ⊤
HasNoFailure (r ∷ rs) = (IsFailure r → ⊥) × HasNoFailure rs
