-- What a device over a file shows.
use Rattle.std.specs.Prelude.{ℕ}
use Rattle.luks_area.specs.declared.file.FileDevice.{FileDevice}

-- its length in bytes
abbrev pub file_size : {F : Type 0} → FileDevice F → ℕ
file_size device = device.total

-- how many of its calls have failed
abbrev pub file_failures : {F : Type 0} → FileDevice F → ℕ
file_failures device = device.failures
