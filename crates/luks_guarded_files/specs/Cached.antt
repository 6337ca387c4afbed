-- A device that remembers its first bytes.
use Rattle.std.specs.Prelude.{◌≡◌, ℕ, ◌+◌, ◌≤◌, List, Option}
use Rattle.luks_area.specs.declared.area.Area.{Area}
use Rattle.luks_area.specs.declared.device.Device.{Ghosts}
use Rattle.luks_guarded_files.specs.declared.cached.CachedDevice.{CachedDevice}

-- the device behind
abbrev pub device_behind : {D : Type 0} {ghosts : Ghosts D} → CachedDevice D ghosts → D
device_behind cached = cached.behind.device

-- the length of the device behind, in bytes
abbrev pub cached_size : {D : Type 0} {ghosts : Ghosts D} → CachedDevice D ghosts → ℕ
cached_size {D} {ghosts} cached = ghosts.size (device_behind cached)

-- the bytes of the device behind
abbrev pub cached_bytes : {D : Type 0} {ghosts : Ghosts D} → CachedDevice D ghosts → List ℕ
cached_bytes {D} {ghosts} cached = ghosts.bytes (device_behind cached)

-- the unsettled places of the device behind
abbrev pub cached_unsettled : {D : Type 0} {ghosts : Ghosts D} → CachedDevice D ghosts → ℕ → Type 0
cached_unsettled {D} {ghosts} cached = ghosts.unsettled (device_behind cached)

-- how many writes failed since a byte that is remembered had changed behind
abbrev pub changes_seen : {D : Type 0} {ghosts : Ghosts D} → CachedDevice D ghosts → ℕ
changes_seen cached = cached.behind.changes

-- how many calls have failed, those of the device behind among them
abbrev pub cached_failures : {D : Type 0} {ghosts : Ghosts D} → CachedDevice D ghosts → ℕ
cached_failures {D} {ghosts} cached = ghosts.failed (device_behind cached) + changes_seen cached

-- how many bytes are remembered, from the place 0 on
abbrev pub remembered : {D : Type 0} {ghosts : Ghosts D} → CachedDevice D ghosts → ℕ
remembered cached = cached.behind.known

-- the `len` bytes at the place `at` are remembered
abbrev pub IsRemembered : {D : Type 0} {ghosts : Ghosts D} → CachedDevice D ghosts → ℕ → ℕ → Type 0
IsRemembered cached at len = at + len ≤ remembered cached

-- they follow those that are remembered, and there is room for them
abbrev pub Follows : {D : Type 0} {ghosts : Ghosts D} → CachedDevice D ghosts → ℕ → ℕ → Type 0
Follows cached at len = (at ≡ remembered cached) × (at + len ≤ 32768)

-- the first range whose reading failed, as it was asked for
abbrev pub missed_by : {D : Type 0} {ghosts : Ghosts D} → CachedDevice D ghosts → Option Area
missed_by cached = cached.missed
