-- What a call leaves of a device as it was, and when it counts a failure.
use Rattle.std.specs.Prelude.{◌≡◌, ℕ, ◌+◌, Bool, true, false, List, Result, MatchResult}
use Rattle.std.proofs.Common.{refl, ◌∙◌}
use Rattle.luks_area.specs.Ranges.{IsOfEither, SameBut}
use Rattle.luks_area.specs.declared.device.DeviceFault.{DeviceFault}

-- nothing changed: the device's length stays, and so do its bytes where it tells them, and no place more
-- is unsettled
pub record IsUnchanged {D : Type 0} (tells : Type 0) (size_of : D → ℕ) (bytes_of : D → List ℕ) (unsettled_of : D → ℕ → Type 0) (old new : D) : Type 0 where
  pub size : size_of new ≡ size_of old
  pub same : tells → bytes_of new ≡ bytes_of old
  pub unsettled : tells → (p : ℕ) → unsettled_of new p → unsettled_of old p

-- no place is unsettled
pub record IsSettled {D : Type 0} (unsettled_of : D → ℕ → Type 0) (device : D) : Type 0 where
  pub none : (p : ℕ) → unsettled_of device p → ⊥

-- A call, or several in a row, that wrote to some places, whether it failed or not: no byte has changed but
-- at these and at those that were unsettled, and no other place is unsettled.
pub record Touches {D : Type 0} (bytes_of : D → List ℕ) (unsettled_of : D → ℕ → Type 0) (places : ℕ → Type 0) (old new : D) : Type 0 where
  pub bytes : SameBut (IsOfEither (unsettled_of old) places) (bytes_of old) (bytes_of new)
  pub unsettled : (p : ℕ) → unsettled_of new p → IsOfEither (unsettled_of old) places p

-- the empty set of places
abbrev pub no_place : ℕ → Type 0
no_place p = ⊥

-- the count of failures after a call: one more where the device failed
abbrev pub count_after : Bool → ℕ → ℕ
count_after true count = count + 1
count_after false count = count

-- the count of failures rises by one exactly where the call answers a fault that is the device's;
-- `is_failure` tells which faults are
abbrev pub CountsFailure : {T F : Type 0} → (F → Bool) → Result T F → ℕ → ℕ → Type 0
CountsFailure is_failure result old new = MatchResult result (λ _. new ≡ old) (λ fault. new ≡ count_after (is_failure fault) old)

-- every `DeviceFault` is the device's
abbrev pub is_failure : DeviceFault → Bool
is_failure fault = true

-- where two calls in turn change nothing, both together change nothing
pub unchanged-then : {D : Type 0} {tells : Type 0} {size_of : D → ℕ} {bytes_of : D → List ℕ} {unsettled_of : D → ℕ → Type 0} {first mid last : D}
    → IsUnchanged tells size_of bytes_of unsettled_of first mid → IsUnchanged tells size_of bytes_of unsettled_of mid last
    → IsUnchanged tells size_of bytes_of unsettled_of first last
unchanged-then before after = record {
  size = after.size ∙ before.size;
  same = λ t. after.same t ∙ before.same t;
  unsettled = λ t p is. before.unsettled t p (after.unsettled t p is);
}

-- a device that no call was made on
pub unchanged-same : {D : Type 0} {tells : Type 0} {size_of : D → ℕ} {bytes_of : D → List ℕ} {unsettled_of : D → ℕ → Type 0} (device : D)
    → IsUnchanged tells size_of bytes_of unsettled_of device device
unchanged-same device = record { size = refl; same = λ t. refl; unsettled = λ t p is. is }
