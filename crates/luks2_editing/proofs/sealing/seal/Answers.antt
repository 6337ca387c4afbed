use Rattle.luks2_editing.proofs.SealingFacts.{unsealed_fault, unsealed_own}
use Rattle.luks2_editing.proofs.sealing.seal.Goals as goal

pub returns-in-Err-clause-fault : goal.returns-in-Err-clause-fault
returns-in-Err-clause-fault g c = rw c.sealing_fault.ensures (unsealed_fault c.args.secrets.now.allowed c.args.plan.now c.in-Err.fault c.in-Err.ensures.fault)

pub returns-in-Err-clause-same : goal.returns-in-Err-clause-same
returns-in-Err-clause-same g c = λ tells other.
    c.in-Err.ensures.same tells (unsealed_own c.in-Err.fault (rw c.sealing_fault.ensures at other))
