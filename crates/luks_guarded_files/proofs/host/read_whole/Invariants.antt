use Rattle.std.proofs.Common.{◌-◌, ◌≤◌, length}
use Rattle.luks_guarded_files.proofs.host.read_whole.Given as goal

-- what was read lies in the buffer, which keeps its length
abbrev pub invariant-loop-len : goal.invariant-loop-len
invariant-loop-len g l = l.len ≤ length l.into

abbrev pub decreases-loop-len : goal.decreases-loop-len
decreases-loop-len g l = length l.into - l.len
