use Rattle.sha2.specs.Sha512.{sha512}
use Rattle.luks_lanes.specs.Turns.{AreTurned}
use Rattle.luks_lanes.proofs.wide_turns.sha512_turns.Given as goal

-- the blocks so far are turned
abbrev pub invariant-loop-i : goal.invariant-loop-i
invariant-loop-i l = AreTurned sha512 64 l.key l.iterations l.i l.initial.blocks l.blocks
