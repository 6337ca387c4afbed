use Rattle.luks_vouching.proofs.LawFacts.{sound_meets}
use Rattle.luks_vouching.proofs.laws.sound_copy_meets.Goals as goal

pub returns : goal.returns
returns c = sound_meets
