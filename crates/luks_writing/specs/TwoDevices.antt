-- Calls that go to two devices.
use Rattle.std.specs.Prelude.{◌≡◌, ◌⊎◌, ℕ, ◌+◌, Bool, true, false, Result, MatchResult}
use Rattle.luks_area.specs.Device.{IsUnchanged}
use Rattle.luks_area.specs.declared.device.Device.{Ghosts}

-- one call has failed, of the device whose count went from `s` to `t`, or of the one from `u` to `w`
abbrev pub IsOneFailure : ℕ → ℕ → ℕ → ℕ → Type 0
IsOneFailure s t u w = ((t ≡ s + 1) × (w ≡ u)) ⊎ ((t ≡ s) × (w ≡ u + 1))

-- the counts after a call, where the fault was a device's or not
abbrev pub CountsAfter : Bool → ℕ → ℕ → ℕ → ℕ → Type 0
CountsAfter true s t u w = IsOneFailure s t u w
CountsAfter false s t u w = (t ≡ s) × (w ≡ u)

-- a device's fault is answered exactly where one call of one of the two devices failed; `is_failure`
-- tells which faults are a device's
abbrev pub CountsEither : {X F : Type 0} → (F → Bool) → Result X F → ℕ → ℕ → ℕ → ℕ → Type 0
CountsEither is_failure result s t u w = MatchResult result (λ _. (t ≡ s) × (w ≡ u)) (λ fault. CountsAfter (is_failure fault) s t u w)

-- the call reads a source, which stays, and writes to a target of the same length: a fault is answered that is a
-- device's exactly where one call of one of the two failed
pub record Copies {S T X F : Type 0} (source : Ghosts S) (target : Ghosts T) (is_failure : F → Bool) (result : Result X F)
    (source_old source_new : S) (target_old target_new : T) : Type 0 where
  pub count : CountsEither is_failure result (source.failed source_old) (source.failed source_new) (target.failed target_old) (target.failed target_new)
  pub kept : IsUnchanged source.tells source.size source.bytes source.unsettled source_old source_new
  pub size : target.size target_new ≡ target.size target_old
