-- A device of which one call fails.
use Rattle.std.specs.Prelude.{◌≡◌, ℕ, zero, suc, ◌/◌, List, length, take, replicate, Option, None, Some, Result, IsOk, IsErr}
use Rattle.luks_area.specs.declared.device.Device.{Ghosts}
use Rattle.luks_area.specs.declared.device.DeviceFault.{DeviceFault}
use Rattle.luks_area.specs.declared.faulty.FaultyDevice.{FaultyDevice}
use Rattle.luks_area.specs.declared.faulty.Leave.{Leave}
use Rattle.luks_area.specs.declared.faulty.Leave.TheVariants.{Old, New, Ones, Half}
use Rattle.luks_area.specs.Ranges.{written}

-- the device behind
abbrev pub inner_device : {D : Type 0} {ghosts : Ghosts D} → FaultyDevice D ghosts → D
inner_device faulty = faulty.device

-- the length of the device behind, in bytes
abbrev pub faulty_size : {D : Type 0} {ghosts : Ghosts D} → FaultyDevice D ghosts → ℕ
faulty_size {D} {ghosts} faulty = ghosts.size (inner_device faulty)

-- the bytes of the device behind
abbrev pub faulty_bytes : {D : Type 0} {ghosts : Ghosts D} → FaultyDevice D ghosts → List ℕ
faulty_bytes {D} {ghosts} faulty = ghosts.bytes (inner_device faulty)

-- the unsettled places of the device behind
abbrev pub faulty_unsettled : {D : Type 0} {ghosts : Ghosts D} → FaultyDevice D ghosts → ℕ → Type 0
faulty_unsettled {D} {ghosts} faulty = ghosts.unsettled (inner_device faulty)

-- how many calls come before the one that fails; none once it has failed
abbrev pub calls_before : {D : Type 0} {ghosts : Ghosts D} → FaultyDevice D ghosts → Option ℕ
calls_before faulty = faulty.before

-- what the failing write leaves
abbrev pub leave_of : {D : Type 0} {ghosts : Ghosts D} → FaultyDevice D ghosts → Leave
leave_of faulty = faulty.leave

-- how many calls have failed, for either cause
abbrev pub faulty_failures : {D : Type 0} {ghosts : Ghosts D} → FaultyDevice D ghosts → ℕ
faulty_failures faulty = faulty.failures

-- the next call fails, whatever the device behind does
abbrev pub IsDue : {D : Type 0} {ghosts : Ghosts D} → FaultyDevice D ghosts → Type 0
IsDue faulty = calls_before faulty ≡ Some 0

-- a call was counted: one fewer comes before the one that fails, after which none is counted
abbrev pub one_fewer : Option ℕ → Option ℕ
one_fewer None = None
one_fewer (Some zero) = None
one_fewer (Some (suc n)) = Some n

-- a call fails where it is due, and each other one exactly where the device behind fails
pub record FailsWhereDue {D : Type 0} {ghosts : Ghosts D} (old new : FaultyDevice D ghosts) (result : Result (Unit {0}) DeviceFault) : Type 0 where
  pub counted : calls_before new ≡ one_fewer (calls_before old)
  pub leave : leave_of new ≡ leave_of old
  pub due : IsDue old → IsErr result
  pub passed_on : (IsDue old → ⊥) → ghosts.failed (inner_device new) ≡ ghosts.failed (inner_device old) → IsOk result
  pub failed : IsOk result → ghosts.failed (inner_device new) ≡ ghosts.failed (inner_device old)

-- the volume `v` after a write of `bytes` at `at` that failed
abbrev pub left_behind : Leave → List ℕ → ℕ → List ℕ → List ℕ
left_behind Old v at bytes = v
left_behind New v at bytes = written v at bytes
left_behind Ones v at bytes = written v at (replicate (length bytes) 0xFF)
left_behind Half v at bytes = written v at (take (length bytes / 2) bytes)

-- after the write that failed the bytes are what is left behind, if the device behind didn't fail too
abbrev pub LeavesBehind : {D : Type 0} {ghosts : Ghosts D} → FaultyDevice D ghosts → FaultyDevice D ghosts → ℕ → List ℕ → Type 0
LeavesBehind {D} {ghosts} old new at bytes =
    ghosts.failed (inner_device new) ≡ ghosts.failed (inner_device old)
    → faulty_bytes new ≡ left_behind (leave_of old) (faulty_bytes old) at bytes
