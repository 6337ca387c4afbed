use Rattle.std.proofs.Common.{◌*◌}
use Rattle.sha1.specs.Sha1.{sha1}
use Rattle.luks_lanes.specs.Turns.{AreTurned}
use Rattle.luks_lanes.proofs.quad_turns.sha1_turns.Given as goal

-- the groups so far are turned
abbrev pub invariant-loop-i : goal.invariant-loop-i
invariant-loop-i l = AreTurned sha1 20 l.key l.iterations (l.i * 4) l.initial.blocks l.blocks
