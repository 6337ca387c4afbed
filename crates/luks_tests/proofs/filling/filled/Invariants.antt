use Rattle.std.proofs.Common.{length, min}
use Rattle.luks_area.specs.Memory.{memory_bytes}
use Rattle.luks_window.specs.Cut.{cut_length}
use Rattle.luks_tests.proofs.filling.filled.Given as goal

-- the window is of the disk as it is
abbrev pub ghosts-fill_window : goal.ghosts-fill_window
ghosts-fill_window a = record {
  bytes = memory_bytes a.disk;
  unsettled = λ _. ⊥;
  start = min a.offset (length (memory_bytes a.disk));
  len = cut_length (length (memory_bytes a.disk)) a.offset a.len;
}
