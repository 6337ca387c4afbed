use Rattle.std.proofs.Common.{ℕ, ◌<◌}
use Rattle.luks1_header.specs.Faults.{IsLuks1Fault}
use Rattle.luks1_header.specs.declared.fault.HeadFault.TheVariants as fault
use Rattle.luks1_header.proofs.luks1_faults.stripes.Given as goal

-- no keyslot before this one has the fault
abbrev pub invariant-loop-n : goal.invariant-loop-n
invariant-loop-n l = (k : ℕ) → k < l.n → IsLuks1Fault l.bytes (fault.Stripes k) → ⊥
