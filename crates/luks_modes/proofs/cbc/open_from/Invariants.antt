use Rattle.luks_modes.proofs.LoopFacts.{IsOpening}
use Rattle.luks_modes.proofs.cbc.open_from.Given as goal

-- the blocks so far are opened, and what the last of them was is kept
abbrev pub invariant-loop-j : goal.invariant-loop-j
invariant-loop-j l = IsOpening l.key l.fn.iv l.initial.bytes l.bytes l.before l.j
