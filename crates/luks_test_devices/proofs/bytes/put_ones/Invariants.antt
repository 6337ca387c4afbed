use Rattle.std.proofs.Common.{◌≡◌, replicate}
use Rattle.luks_area.specs.Ranges.{written}
use Rattle.luks_test_devices.proofs.bytes.put_ones.Given as goal

-- so many bytes are written
abbrev pub invariant-loop-i : goal.invariant-loop-i
invariant-loop-i l = l.volume ≡ written l.initial.volume l.at (replicate l.i 0xFF)
