use Rattle.luks_area.specs.Ranges.{SameBut}
use Rattle.luks_test_devices.specs.Differing.{differ}
use Rattle.luks_test_devices.proofs.losing.lose.Given as goal

-- only bytes that differed have changed
abbrev pub invariant-loop-i : goal.invariant-loop-i
invariant-loop-i l = SameBut (differ l.initial.present l.settled) l.initial.present l.present
