-- Volumes that nothing was done to.
use Rattle.std.proofs.Common.{ℕ, List, Result, Ok, Err, refl}
use Rattle.std.specs.Result.{ForOk}
use Rattle.luks_area.specs.Device.{IsSettled}
use Rattle.luks_commands.specs.declared.inputs.InputFault.{InputFault}
use Rattle.luks_commands.specs.Files.{KeepsVolume, LeavesSettled, LeavesVolume}

-- a volume that no call was made on is there as it was
pub keeps_same : {T : Type 0} (tells : Type 0) (size : T → ℕ) (bytes : T → List ℕ) (unsettled : T → ℕ → Type 0) (volume : Result T InputFault)
    → KeepsVolume tells size bytes unsettled volume volume
keeps_same {T} tells size bytes unsettled (Ok device) = record { size = refl; same = λ told. refl; unsettled = λ told p is. is }
keeps_same {T} tells size bytes unsettled (Err fault) = refl

-- a volume that was settled and that nothing changed of is settled
pub settled_kept : {T : Type 0} (tells : Type 0) (size failed : T → ℕ) (bytes : T → List ℕ) (unsettled : T → ℕ → Type 0) (old new : Result T InputFault)
    → (tells → ForOk old (IsSettled unsettled)) → KeepsVolume tells size bytes unsettled old new → LeavesSettled tells failed unsettled old new
settled_kept {T} tells size failed bytes unsettled (Ok old) (Ok new) settled kept = λ told same. record { none = λ p is. (settled told old refl).none p (kept.unsettled told p is) }
settled_kept {T} tells size failed bytes unsettled (Ok old) (Err fault) settled kept = kept
settled_kept {T} tells size failed bytes unsettled (Err fault) new settled kept = kept

-- and so is one that no call was made on
pub settled_same : {T : Type 0} (tells : Type 0) (failed : T → ℕ) (unsettled : T → ℕ → Type 0) (volume : Result T InputFault)
    → (tells → ForOk volume (IsSettled unsettled)) → LeavesSettled tells failed unsettled volume volume
settled_same {T} tells failed unsettled (Ok device) settled = λ told same. settled told device refl
settled_same {T} tells failed unsettled (Err fault) settled = refl

-- what is told of a volume otherwise
pub left_as : {D : Type 0} (tells : Type 0) (size : D → ℕ) (bytes : D → List ℕ) (says told : List ℕ → List ℕ → Type 0)
    → ((v w : List ℕ) → says v w → told v w) → (old new : Result D InputFault) → LeavesVolume tells size bytes says old new
    → LeavesVolume tells size bytes told old new
left_as tells size bytes says told of (Ok old) (Ok new) x = record { size = x.size; said = λ t. of (bytes old) (bytes new) (x.said t) }
left_as tells size bytes says told of (Ok old) (Err f) x = absurd x
left_as tells size bytes says told of (Err f) new x = x
