use Rattle.luks_formatting.proofs.Formatted2Facts.{slot_opens, well_formed}
use Rattle.luks_formatting.proofs.laws.formatted2_as_opens.Goals as goal

pub returns-clause-well_formed : goal.returns-clause-well_formed
returns-clause-well_formed c = well_formed

pub returns-clause-opens : goal.returns-clause-opens
returns-clause-opens c given format chosen passphrase random old new some large counted sound fits x memory allowed can enough may =
    slot_opens given format chosen passphrase random old new some large counted sound fits x memory allowed can enough may
