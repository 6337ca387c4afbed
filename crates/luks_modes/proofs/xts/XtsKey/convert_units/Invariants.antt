use Rattle.luks_modes.specs.Units.{converted}
use Rattle.luks_modes.proofs.RunFacts.{IsRunUnderWay}
use Rattle.luks_modes.proofs.xts.XtsKey.convert_units.Given as goal

-- the units so far are done
abbrev pub invariant-loop-u : goal.invariant-loop-u
invariant-loop-u l = IsRunUnderWay (converted l.direction l.self) l.first l.initial.bytes l.bytes l.u
