-- What calls promise of their device, each a record over the device's ghost members.
use Rattle.std.specs.Prelude.{◌≡◌, ℕ, ◌+◌, ◌^◌, ◌<◌, Bool, Result}
use Rattle.luks_area.specs.Device.{CountsFailure, IsSettled, IsUnchanged}
use Rattle.luks_area.specs.Ranges.{SameBut}
use Rattle.luks_area.specs.declared.device.Device.{Ghosts}

-- a call may be made: one more failure can be counted, and no place is unsettled
pub record IsReady {D : Type 0} (device : Ghosts D) (old : D) : Type 0 where
  pub room : device.failed old + 1 < 2 ^ 64
  pub settled : device.tells → IsSettled device.unsettled old

-- the call reads: nothing changes, and a failure is counted exactly where a fault is answered that is the device's
pub record Reads {D X F : Type 0} (device : Ghosts D) (is_failure : F → Bool) (result : Result X F) (old new : D) : Type 0 where
  pub unchanged : IsUnchanged device.tells device.size device.bytes device.unsettled old new
  pub count : CountsFailure is_failure result (device.failed old) (device.failed new)

-- the call writes and flushes: a failure is counted exactly where a fault is answered that is the device's,
-- and while none is, no place is unsettled
pub record Settles {D X F : Type 0} (device : Ghosts D) (is_failure : F → Bool) (result : Result X F) (old new : D) : Type 0 where
  pub count : CountsFailure is_failure result (device.failed old) (device.failed new)
  pub size : device.size new ≡ device.size old
  pub settled : device.tells → device.failed new ≡ device.failed old → IsSettled device.unsettled new

-- no byte changes but at these places, whether the call fails or not
abbrev pub KeepsBut : {D : Type 0} → Ghosts D → (ℕ → Type 0) → D → D → Type 0
KeepsBut device places old new = device.tells → SameBut places (device.bytes old) (device.bytes new)
