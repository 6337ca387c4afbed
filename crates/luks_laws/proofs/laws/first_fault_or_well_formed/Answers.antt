use Rattle.luks_laws.proofs.VolumeDecisions.{first_or_well_formed}
use Rattle.luks_laws.proofs.laws.first_fault_or_well_formed.Goals as goal

pub returns : goal.returns
returns c = λ v payload.
    first_or_well_formed c.one_kind_of_area.ensures.some c.one_kind_of_area.ensures.good c.one_value.ensures c.one_choice.ensures.some c.one_choice.ensures.only
    v payload (c.no_fault_is_well_formed.ensures v payload).1
