use Rattle.std.specs.Prelude.{◌≡◌, ◌≤◌, ◌+◌, ◌-◌, drop, length}
use Rattle.luks_area.specs.Ranges.{part}
use Rattle.luks_given.specs.Planned.{planned_bytes}
use Rattle.luks_given.proofs.planned_writes.PlannedWrites.changing.Given as goal

-- the bytes behind these are there
abbrev pub invariant-loop-len : goal.invariant-loop-len
invariant-loop-len g l = record {
  most : l.len ≤ length l.from;
  rest : drop l.len l.from ≡ part (planned_bytes l.self) (l.at + l.len) (length l.from - l.len);
}

abbrev pub decreases-loop-len : goal.decreases-loop-len
decreases-loop-len g l = l.len
