-- What a device in memory holds.
use Rattle.std.specs.Prelude.{ℕ, List}
use Rattle.luks_area.specs.declared.memory.MemDevice.{MemDevice}

-- its bytes, from the place 0 on
abbrev pub memory_bytes : MemDevice → List ℕ
memory_bytes device = device.contents.items
