use Rattle.luks_modes.specs.Cbc.{CbcOpen, CbcSeal}
use Rattle.luks_modes.proofs.SectorFacts.{IsRun}
use Rattle.luks_modes.proofs.cbc.CbcKey.seal_units.Given as goal

-- the sectors so far are done
abbrev pub invariant-loop-u : goal.invariant-loop-u
invariant-loop-u l = IsRun (CbcSeal l.self) (CbcOpen l.self) l.first l.initial.bytes l.bytes l.u
