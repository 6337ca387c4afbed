use Rattle.std.proofs.Common.{refl, below_more}
use Rattle.luks1_header.specs.declared.fault.HeadFault.TheVariants as fault
use Rattle.luks1_header.specs.declared.fault.IterationsOf.TheVariants as of
use Rattle.luks1_header.proofs.luks1_faults.iterations.Goals as goal

pub loop-n-preserved : goal.loop-n-preserved
loop-n-preserved c =
    below_more _ _ c.loop-n.invariant
    (λ bad. c.in_ok-entry_iterations.ensures (fault.Iterations (of.Slot c.loop-n.n)) (rw c.entry_of.ensures.value (refl, bad.1)) refl)
