use Rattle.luks_reading.proofs.VolumeLaws.{faultless_well_formed, well_formed_faultless}
use Rattle.luks_reading.proofs.laws.no_fault_is_well_formed.Goals as goal

pub returns : goal.returns
returns c = λ v payload. (well_formed_faultless v payload, faultless_well_formed v payload)
