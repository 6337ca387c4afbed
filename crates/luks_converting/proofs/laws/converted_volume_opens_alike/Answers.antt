use Rattle.luks_converting.proofs.VolumeFacts.{absent, opens_alike, well_formed}
use Rattle.luks_converting.proofs.laws.converted_volume_opens_alike.Goals as goal

pub returns-clause-well_formed : goal.returns-clause-well_formed
returns-clause-well_formed c = well_formed

pub returns-clause-opens : goal.returns-clause-opens
returns-clause-opens c v random old w was source large x = opens_alike v random old w source large x was

pub returns-clause-absent : goal.returns-clause-absent
returns-clause-absent c v random old w was source large x = absent v random old w source large x was
