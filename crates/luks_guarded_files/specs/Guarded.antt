-- A device that is written only after its beginning was compared.
use Rattle.std.specs.Prelude.{ℕ, ◌+◌, List}
use Rattle.luks_area.specs.declared.device.Device.{Ghosts}
use Rattle.luks_guarded_files.specs.declared.guarded.GuardedDevice.{GuardedDevice}
use Rattle.luks_guarded_files.specs.declared.guarded.Same.{Same}

-- how many bytes were compared
abbrev pub compared : Same → ℕ
compared same = same.len

-- the device
abbrev pub guarded_device : {D : Type 0} {ghosts : Ghosts D} → GuardedDevice D ghosts → D
guarded_device guarded = guarded.device

-- how many bytes of its beginning are known
abbrev pub known_of : {D : Type 0} {ghosts : Ghosts D} → GuardedDevice D ghosts → ℕ
known_of guarded = guarded.known

-- how many comparisons have seen a change
abbrev pub seen_changes : {D : Type 0} {ghosts : Ghosts D} → GuardedDevice D ghosts → ℕ
seen_changes guarded = guarded.changes

-- its length, in bytes
abbrev pub guarded_size : {D : Type 0} {ghosts : Ghosts D} → GuardedDevice D ghosts → ℕ
guarded_size {D} {ghosts} guarded = ghosts.size (guarded_device guarded)

-- its bytes
abbrev pub guarded_bytes : {D : Type 0} {ghosts : Ghosts D} → GuardedDevice D ghosts → List ℕ
guarded_bytes {D} {ghosts} guarded = ghosts.bytes (guarded_device guarded)

-- its unsettled places
abbrev pub guarded_unsettled : {D : Type 0} {ghosts : Ghosts D} → GuardedDevice D ghosts → ℕ → Type 0
guarded_unsettled {D} {ghosts} guarded = ghosts.unsettled (guarded_device guarded)

-- how many of its calls have failed, with the comparisons that saw a change
abbrev pub guarded_failures : {D : Type 0} {ghosts : Ghosts D} → GuardedDevice D ghosts → ℕ
guarded_failures {D} {ghosts} guarded = ghosts.failed (guarded_device guarded) + seen_changes guarded
