use Rattle.std.proofs.Common.{refl}
use Rattle.luks1_header.proofs.Luks1FaultFacts.{least_text}
use Rattle.luks1_header.proofs.luks1_faults.texts.Goals as goal

pub returns-in-Some : goal.returns-in-Some
returns-in-Some c = (refl, c.in-Some.ensures.least.0, least_text _ _ c.in-Some.ensures.least.1)
