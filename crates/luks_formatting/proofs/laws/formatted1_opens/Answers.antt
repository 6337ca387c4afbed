use Rattle.std.proofs.Common.{length}
use Rattle.std.proofs.lemmas.Bool.{false≢true}
use Rattle.luks_slot.specs.Allowance.{none_allowed}
use Rattle.luks_formatting.specs.Given.{nothing_given}
use Rattle.luks_formatting.proofs.GivenFacts.{nothing_sound1}
use Rattle.luks_formatting.proofs.Formatted1Facts.{slot_opens, well_formed}
use Rattle.luks_formatting.proofs.laws.formatted1_opens.Goals as goal

pub returns-clause-well_formed : goal.returns-clause-well_formed
returns-clause-well_formed c payload format passphrase random old new some large = well_formed (nothing_given payload) format passphrase random old new some large (nothing_sound1 payload (length new))

pub returns-clause-opens : goal.returns-clause-opens
returns-clause-opens c payload format passphrase random old new some large counted x = slot_opens (nothing_given payload) format passphrase random old new some large (nothing_sound1 payload (length new)) x none_allowed (λ is. absurd (false≢true is)) counted
