use Rattle.std.proofs.Common.{◌+◌, ◌-◌}
use Rattle.luks_area.specs.Names.{HasArea}
use Rattle.luks2_edit_laws.specs.GapSearch.{HasNoGapBefore}
use Rattle.luks2_edit_laws.proofs.gap.least_gap.Given as goal

abbrev pub invariant-loop-at : goal.invariant-loop-at
invariant-loop-at l = HasNoGapBefore (HasArea l.entries) l.low l.high l.len l.at

abbrev pub decreases-loop-at : goal.decreases-loop-at
decreases-loop-at l = l.last + 1 - l.at
