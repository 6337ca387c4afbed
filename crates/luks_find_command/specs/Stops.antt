-- Why a search stops before the end of its device.
use Rattle.std.specs.Prelude.{◌≡◌, ℕ, ◌+◌, ◌<◌, ◌≤◌}
use Rattle.luks_finding.specs.declared.find_fault.FindFault.{FindFault}
use Rattle.luks_finding.specs.declared.find_fault.FindFault.TheVariants as fault
use Rattle.luks_seeking.specs.declared.fault.SeekFault.{SeekFault}
use Rattle.luks_seeking.specs.declared.fault.SeekFault.TheVariants as seek
use Rattle.luks_find_command.specs.declared.stop.Stop.{Stop}
use Rattle.luks_find_command.specs.declared.stop.Stop.TheVariants.{Device, Memory, Unprinted}

abbrev pub stop_of : FindFault → Stop
stop_of fault.Memory = Memory
stop_of fault.Device = Device

abbrev pub stop_of_seek : SeekFault → Stop
stop_of_seek seek.Memory = Memory
stop_of_seek seek.Device = Device

-- by which count of failures a search stopped: that of the device went from `failed` to `failed_now`, that of the printer
-- from `prints` to `prints_now`
abbrev pub StopsBy : Stop → ℕ → ℕ → ℕ → ℕ → Type 0
StopsBy Device failed failed_now prints prints_now = (failed < failed_now) × (prints_now ≡ prints)
StopsBy Memory failed failed_now prints prints_now = (failed ≤ failed_now) × (prints_now ≡ prints)
StopsBy Unprinted failed failed_now prints prints_now = (failed ≤ failed_now) × (prints_now ≡ prints + 1)

-- that of the printer alone
abbrev pub PrintsBy : Stop → ℕ → ℕ → Type 0
PrintsBy Device prints prints_now = prints_now ≡ prints
PrintsBy Memory prints prints_now = prints_now ≡ prints
PrintsBy Unprinted prints prints_now = prints_now ≡ prints + 1
