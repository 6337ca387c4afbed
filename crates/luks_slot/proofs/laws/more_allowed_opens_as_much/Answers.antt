use Rattle.luks_slot.proofs.RefusalFacts.{still_accepted}
use Rattle.luks_slot.proofs.laws.more_allowed_opens_as_much.Goals as goal

pub returns : goal.returns
returns c = still_accepted
