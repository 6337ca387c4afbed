use Rattle.std.proofs.Output.{has_written_of_eq}
use Rattle.luks_underway_show.proofs.ItemFacts.{first_and_later}
use Rattle.luks_underway_show.proofs.shown.ItemsDisplay.fmt.Goals as goal

pub returns-clause-writes : goal.returns-clause-writes
returns-clause-writes g c plain ok =
    has_written_of_eq _ _ _ _ _ (first_and_later c.args.self.now.0.now c.first-item.result c.in-len1-up.len_at_least c.first-item.is) (c.write.ensures.writes plain ok)
