use Rattle.luks1_rebuilding.proofs.AlikeFacts.{low_gives, whole_gives}
use Rattle.luks1_rebuilding.proofs.trial.laws.plain_gives_alike.Goals as goal

pub returns : goal.returns
returns c = λ v whole low x older n p a. (low_gives v whole low x older n p a, whole_gives v whole low x older n p a)
