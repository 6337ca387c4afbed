use Rattle.luks_keeping.proofs.ClearFacts.{sound_begins}
use Rattle.luks_keeping.proofs.laws.sound_copies_begin.Goals as goal

pub returns : goal.returns
returns c v place listed sound = sound_begins v place listed sound
