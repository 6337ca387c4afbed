use Rattle.std.proofs.Common.{subst}
use Rattle.luks_trials.specs.Metadata.{IsMetaOf}
use Rattle.luks_trials.proofs.anew.tells_as_before.Goals as goal

pub returns-in-Some : goal.returns-in-Some
returns-in-Some c = λ yes allowed v p old new stands is x. c.tells_alike.ensures yes allowed v p old new (subst (IsMetaOf old) c.in-Some.is stands) is x
