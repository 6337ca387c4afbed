use Rattle.luks_finding.proofs.FaultyFacts.{faulty_told}
use Rattle.luks_finding.proofs.metadata.is_faultless.Goals as goal

pub returns-clause-faultless : goal.returns-clause-faultless
returns-clause-faultless c = rw c.faulty.ensures (faulty_told c.args.json.now c.in-Err.fault c.in-Err.ensures.fault)
