-- The volume that begins at a place of a device, as a device.
use Rattle.std.specs.Prelude.{◌≡◌, ℕ, ◌+◌, ◌<◌, ◌≤◌, List, length}
use Rattle.std.proofs.Common.{arith}
use Rattle.luks_area.specs.Ranges.{part}
use Rattle.luks_area.specs.declared.device.Device.{Ghosts as OfDevice}
use Rattle.luks_window.specs.declared.disk.Disk.{Ghosts as OfDisk}
use Rattle.luks_find_command.specs.declared.volume_at.VolumeAt.{VolumeAt}

-- the device behind
abbrev pub behind : {D K : Type 0} {device : OfDevice D} {disk : OfDisk K} → VolumeAt D K device disk → D
behind volume = volume.device

-- where it begins there, in bytes
abbrev pub volume_start : {D K : Type 0} {device : OfDevice D} {disk : OfDisk K} → VolumeAt D K device disk → ℕ
volume_start volume = volume.start

-- its length in bytes
abbrev pub volume_size : {D K : Type 0} {device : OfDevice D} {disk : OfDisk K} → VolumeAt D K device disk → ℕ
volume_size volume = volume.len

-- its bytes
abbrev pub volume_bytes : {D K : Type 0} {device : OfDevice D} {disk : OfDisk K} → VolumeAt D K device disk → List ℕ
volume_bytes {D} {device} volume = part (device.bytes (behind volume)) (volume_start volume) (volume_size volume)

-- its unsettled places are those of the device behind that lie in it
abbrev pub volume_unsettled : {D K : Type 0} {device : OfDevice D} {disk : OfDisk K} → VolumeAt D K device disk → ℕ → Type 0
volume_unsettled {D} {device} volume p = (p < volume_size volume) × device.unsettled (behind volume) (volume_start volume + p)

-- how many calls of the device behind have failed
abbrev pub volume_failures : {D K : Type 0} {device : OfDevice D} {disk : OfDisk K} → VolumeAt D K device disk → ℕ
volume_failures {D} {device} volume = device.failed (behind volume)

-- it lies inside
pub inside-whole : (start len size : ℕ) (v : List ℕ) → start + len ≡ size → length v ≡ size → start + len ≤ length v
inside-whole start len size v whole long = omega (arith, whole, long)
