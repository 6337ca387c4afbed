use Rattle.std.proofs.Common.{◌-◌, ◌≤◌, length}
use Rattle.luks_guarded_files.proofs.watch.read_front.Given as goal

-- what was read lies in the buffer, which keeps its length
abbrev pub invariant-loop-len : goal.invariant-loop-len
invariant-loop-len l = l.len ≤ length l.into

abbrev pub decreases-loop-len : goal.decreases-loop-len
decreases-loop-len l = length l.into - l.len
