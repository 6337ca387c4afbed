use Rattle.luks_rebuilding.proofs.ShareFacts.{shares_fit}
use Rattle.luks_rebuilding.proofs.laws.search_is_bounded.Goals as goal

pub returns : goal.returns
returns c = shares_fit
