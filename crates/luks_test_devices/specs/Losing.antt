-- A device of which a call may lose what was written and not flushed.
use Rattle.std.specs.Prelude.{ℕ, ◌+◌, List}
use Rattle.luks_test_devices.specs.declared.losing.LosingDevice.{LosingDevice}
use Rattle.luks_test_devices.specs.declared.losing.Turn.{Turn}
use Rattle.luks_test_devices.specs.declared.losing.Turn.TheVariants.{Done, Lost, Dead}
use Rattle.luks_test_devices.specs.Differing.{differ}

-- the bytes that are read
abbrev pub losing_bytes : LosingDevice → List ℕ
losing_bytes device = device.present.items

-- the bytes of the last flush
abbrev pub settled_bytes : LosingDevice → List ℕ
settled_bytes device = device.settled.items

-- the places that were written and not flushed
abbrev pub losing_unsettled : LosingDevice → ℕ → Type 0
losing_unsettled device = differ (losing_bytes device) (settled_bytes device)

-- how many calls have failed
abbrev pub losing_failures : LosingDevice → ℕ
losing_failures device = device.failures

-- the count of failures after a call that came to this
abbrev pub failures_after : Turn → ℕ → ℕ
failures_after Done count = count
failures_after Lost count = count + 1
failures_after Dead count = count + 1
