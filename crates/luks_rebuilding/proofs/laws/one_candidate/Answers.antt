use Rattle.luks_rebuilding.proofs.SourceFacts.{one_source}
use Rattle.luks_rebuilding.proofs.laws.one_candidate.Goals as goal

pub returns : goal.returns
returns c v which a b x y = one_source v which a b x y
