use Rattle.luks_contradictions.proofs.UnderWayFacts.{not_under_way}
use Rattle.luks_wider.proofs.laws.accepted_is_not_under_way.Goals as goal

pub returns : goal.returns
returns c = not_under_way
