use Rattle.luks_formatting.proofs.Formatted1Facts.{slot_opens, well_formed}
use Rattle.luks_formatting.proofs.laws.formatted1_as_opens.Goals as goal

pub returns-clause-well_formed : goal.returns-clause-well_formed
returns-clause-well_formed c = well_formed

pub returns-clause-opens : goal.returns-clause-opens
returns-clause-opens c given format passphrase random old new some large counted sound x allowed may = slot_opens given format passphrase random old new some large sound x allowed may counted
