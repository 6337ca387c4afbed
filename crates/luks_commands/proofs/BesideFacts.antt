-- What becomes of the file beside a volume.
use Rattle.std.proofs.Common.{◌≡◌, ◌⊎◌, ℕ, List, Bool, true, false, Result, Ok, Err, IfErr, OnOk, refl, sym, subst, ◌∙◌, inl, inr, arith}
use Rattle.std.specs.Result.{ForOk}
use Rattle.luks_area.specs.Device.{IsSettled, IsUnchanged}
use Rattle.luks_area.proofs.DeviceFacts.{settled_unchanged}
use Rattle.luks_writing.specs.TwoDevices.{CountsAfter, CountsEither}
use Rattle.luks_commands.specs.declared.inputs.InputFault.{InputFault}
use Rattle.luks_commands.specs.Files.{IsLeft}
use Rattle.luks_commands.specs.Beside.{LeavesTarget, SettlesTarget}

-- a target that no call was made on is as it was
pub leaves_same : {D : Type 0} (tells : Type 0) (size : D → ℕ) (bytes : D → List ℕ) (says : List ℕ → List ℕ → List ℕ → Type 0)
    → ((volume target : List ℕ) → says volume target target) → (volume target : Result D InputFault)
    → LeavesTarget tells size bytes says volume target target
leaves_same {D} tells size bytes says same (Ok v) (Ok d) = record { size = refl; said = λ t. same (bytes v) (bytes d) }
leaves_same {D} tells size bytes says same (Ok v) (Err f) = refl
leaves_same {D} tells size bytes says same (Err f) target = refl

-- and one that nothing changed of has kept its rest
pub leaves_unchanged : {D : Type 0} (tells : Type 0) (size : D → ℕ) (bytes : D → List ℕ) (unsettled : D → ℕ → Type 0) (says : List ℕ → List ℕ → List ℕ → Type 0)
    → ((volume target : List ℕ) → says volume target target) → (volume old new : D) → IsUnchanged tells size bytes unsettled old new
    → IsLeft tells size bytes (says (bytes volume)) old new
leaves_unchanged {D} tells size bytes unsettled says same volume old new is = record {
  size = is.size;
  said = λ t. subst (λ (w : List ℕ). says (bytes volume) (bytes old) w) (sym (is.same t)) (same (bytes volume) (bytes old));
}

-- what is left by what has begun later
pub left_after : {D : Type 0} (tells : Type 0) (size : D → ℕ) (bytes : D → List ℕ) (says : List ℕ → List ℕ → List ℕ → Type 0) (volume later old mid new : D)
    → (tells → bytes later ≡ bytes volume) → size mid ≡ size old → (tells → bytes mid ≡ bytes old) → size new ≡ size mid
    → (tells → says (bytes later) (bytes mid) (bytes new)) → IsLeft tells size bytes (says (bytes volume)) old new
left_after {D} tells size bytes says volume later old mid new same long as_was size_same said = record {
  size = size_same ∙ long;
  said = λ t. subst (λ (o : List ℕ). says (bytes volume) o (bytes new)) (as_was t) (subst (λ (v : List ℕ). says v (bytes mid) (bytes new)) (same t) (said t));
}

-- and settled, where it was
pub settles_same : {D : Type 0} (tells : Type 0) (failed : D → ℕ) (unsettled : D → ℕ → Type 0) (volume volume_new target : Result D InputFault)
    → (tells → ForOk target (IsSettled unsettled)) → SettlesTarget tells failed unsettled volume volume_new target target
settles_same {D} tells failed unsettled (Ok v) (Ok w) (Ok d) settled = λ t a b. settled t d refl
settles_same {D} tells failed unsettled (Ok v) (Ok w) (Err f) settled = tt
settles_same {D} tells failed unsettled (Ok v) (Err f) target settled = tt
settles_same {D} tells failed unsettled (Err f) volume_new target settled = tt

-- where no call failed, the fault is no device's
none_failed : (b : Bool) (s t u w : ℕ) → CountsAfter b s t u w → t ≡ s → w ≡ u → b ≡ false
none_failed true s t u w (inl x) same alike = absurd (omega (arith, x.0, same))
none_failed true s t u w (inr x) same alike = absurd (omega (arith, x.1, alike))
none_failed false s t u w count same alike = refl

-- a call of two devices that met no failure of theirs leaves the target settled
pub settled_by : {D X F : Type 0} {unsettled : D → ℕ → Type 0} {old new : D} (tells : Type 0) (size : D → ℕ) (bytes : D → List ℕ) (is_failure : F → Bool)
    (s t u w : ℕ) (result : Result X F) → CountsEither is_failure result s t u w → OnOk result (IsSettled unsettled new)
    → IfErr result (λ f. is_failure f ≡ false → IsUnchanged tells size bytes unsettled old new)
    → tells → t ≡ s → w ≡ u → IsSettled unsettled old → IsSettled unsettled new
settled_by tells size bytes is_failure s t u w (Ok x) count ok kept told same alike settled = ok
settled_by tells size bytes is_failure s t u w (Err f) count ok kept told same alike settled =
    settled_unchanged told (kept (none_failed (is_failure f) s t u w count same alike)) settled
