use Rattle.std.proofs.Common.{◌≡◌, length}
use Rattle.luks_test_devices.specs.Numbers.{counted_from}
use Rattle.luks_test_devices.proofs.sums.counted.Given as goal

-- so many bytes are counted
abbrev pub invariant-loop-i : goal.invariant-loop-i
invariant-loop-i l = record {
  bytes : l.bytes.items ≡ counted_from l.from l.i;
  len : length l.bytes.items ≡ l.i;
}
