use Rattle.std.proofs.Common.{◌≡◌, length}
use Rattle.luks_area.specs.Scan.{first_pair}
use Rattle.luks_area.proofs.fitting.first_overlap.Given as goal

abbrev pub invariant-loop-left : goal.invariant-loop-left
invariant-loop-left l = first_pair l.left ≡ first_pair l.entries

abbrev pub decreases-loop-left : goal.decreases-loop-left
decreases-loop-left l = length l.left
