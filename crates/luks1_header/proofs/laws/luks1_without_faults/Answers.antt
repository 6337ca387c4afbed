use Rattle.luks1_header.proofs.Luks1FaultFacts.{common_sound, entry_sound, sound}
use Rattle.luks1_header.proofs.Luks1HeaderFacts.{common_found, entry_found, header_found}
use Rattle.luks1_header.proofs.laws.luks1_without_faults.Goals as goal

pub returns-clause-header : goal.returns-clause-header
returns-clause-header c = λ v. (header_found v, λ (d, good). sound v d good)

pub returns-clause-common : goal.returns-clause-common
returns-clause-common c = λ v. (common_found v, λ (d, good). common_sound v d good)

pub returns-clause-entry : goal.returns-clause-entry
returns-clause-entry c = λ n e. (entry_found n e, λ (s, good). entry_sound n e s good)
