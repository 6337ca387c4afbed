use Rattle.std.proofs.Output.{has_written_of_eq}
use Rattle.std.specs.Fmt.{decimal}
use Rattle.luks_find_command.proofs.TellingFacts.{joined_pair}
use Rattle.luks_find_command.proofs.same_uuid.SameUuidDisplay.fmt.Goals as goal

pub returns-clause-writes : goal.returns-clause-writes
returns-clause-writes g c plain ok =
    has_written_of_eq _ _ _ _ _ (joined_pair (decimal c.args.self.now.first) (decimal c.args.self.now.second)) (c.write.ensures.writes plain ok)
