use Rattle.luks_modes.proofs.LoopFacts.{IsSealing}
use Rattle.luks_modes.proofs.cbc.seal_from.Given as goal

-- the blocks so far are sealed, and the last of them is kept
abbrev pub invariant-loop-j : goal.invariant-loop-j
invariant-loop-j l = IsSealing l.key l.fn.iv l.initial.bytes l.bytes l.before l.j
