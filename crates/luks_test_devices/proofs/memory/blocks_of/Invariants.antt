use Rattle.std.proofs.Common.{◌≡◌, length}
use Rattle.luks_test_devices.proofs.memory.blocks_of.Given as goal

-- so many blocks are there
abbrev pub invariant-loop : goal.invariant-loop
invariant-loop l = length l.blocks.items ≡ l.counter
