-- A window of a disk, as a device.
use Rattle.std.specs.Prelude.{ℕ, ◌+◌, ◌<◌, List}
use Rattle.luks_area.specs.Ranges.{part}
use Rattle.luks_area.specs.declared.device.Device.{Ghosts as OfDevice}
use Rattle.luks_window.specs.declared.disk.Disk.{Ghosts as OfDisk}
use Rattle.luks_window.specs.declared.window.Window.{Window}

-- the device behind
abbrev pub behind : {D K : Type 0} {device : OfDevice D} {disk : OfDisk K} → Window D K device disk → D
behind window = window.device

-- where it begins there, in bytes
abbrev pub starts_at : {D K : Type 0} {device : OfDevice D} {disk : OfDisk K} → Window D K device disk → ℕ
starts_at window = window.start

-- its length in bytes
abbrev pub window_size : {D K : Type 0} {device : OfDevice D} {disk : OfDisk K} → Window D K device disk → ℕ
window_size window = window.len

-- its bytes
abbrev pub window_bytes : {D K : Type 0} {device : OfDevice D} {disk : OfDisk K} → Window D K device disk → List ℕ
window_bytes {D} {device} window = part (device.bytes (behind window)) (starts_at window) (window_size window)

-- its unsettled places are those of the device behind that lie in it
abbrev pub window_unsettled : {D K : Type 0} {device : OfDevice D} {disk : OfDisk K} → Window D K device disk → ℕ → Type 0
window_unsettled {D} {device} window p = (p < window_size window) × device.unsettled (behind window) (starts_at window + p)

-- how many calls of the device behind have failed
abbrev pub window_failures : {D K : Type 0} {device : OfDevice D} {disk : OfDisk K} → Window D K device disk → ℕ
window_failures {D} {device} window = device.failed (behind window)
