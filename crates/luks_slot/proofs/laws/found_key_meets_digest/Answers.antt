use Rattle.luks_slot.proofs.OpeningFacts.{found_meets}
use Rattle.luks_slot.proofs.laws.found_key_meets_digest.Goals as goal

pub returns : goal.returns
returns c = found_meets
