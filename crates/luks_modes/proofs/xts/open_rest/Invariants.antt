use Rattle.luks_modes.specs.Xts.{opened_under}
use Rattle.luks_modes.proofs.UnitLoopFacts.{IsUnderWay}
use Rattle.luks_modes.proofs.xts.open_rest.Given as goal

-- the blocks so far are opened, and the tweak is the next one's
abbrev pub invariant-loop-j : goal.invariant-loop-j
invariant-loop-j l = IsUnderWay (opened_under l.key) l.first l.initial.bytes l.bytes l.tweak l.j
