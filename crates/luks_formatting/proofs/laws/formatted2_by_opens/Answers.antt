use Rattle.std.proofs.Common.{length}
use Rattle.std.proofs.lemmas.Bool.{false≢true}
use Rattle.luks_formatting.specs.Given.{nothing_given}
use Rattle.luks_formatting.proofs.GivenFacts.{nothing_sound2}
use Rattle.luks_formatting.proofs.Formatted2Facts.{slot_opens, well_formed}
use Rattle.luks_formatting.proofs.laws.formatted2_by_opens.Goals as goal

pub returns-clause-well_formed : goal.returns-clause-well_formed
returns-clause-well_formed c payload format chosen passphrase random old new some large counted =
    well_formed (nothing_given payload) format chosen passphrase random old new some large counted (nothing_sound2 payload (length new))

pub returns-clause-opens : goal.returns-clause-opens
returns-clause-opens c payload format chosen passphrase random old new some large counted fits x memory allowed can enough =
    slot_opens (nothing_given payload) format chosen passphrase random old new some large counted (nothing_sound2 payload (length new)) fits x memory allowed can enough (λ is. absurd (false≢true is))
