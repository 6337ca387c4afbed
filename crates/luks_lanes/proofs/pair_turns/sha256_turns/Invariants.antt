use Rattle.std.proofs.Common.{◌*◌}
use Rattle.sha2.specs.Sha256.{sha256}
use Rattle.luks_lanes.specs.Turns.{AreTurned}
use Rattle.luks_lanes.proofs.pair_turns.sha256_turns.Given as goal

-- the pairs so far are turned
abbrev pub invariant-loop-i : goal.invariant-loop-i
invariant-loop-i l = AreTurned sha256 32 l.key l.iterations (l.i * 2) l.initial.blocks l.blocks
