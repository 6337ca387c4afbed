use Rattle.luks_reading.proofs.VolumeLaws.{well_formed_fits}
use Rattle.luks_reading.proofs.laws.well_formed_volume.Goals as goal

pub returns : goal.returns
returns c = well_formed_fits
