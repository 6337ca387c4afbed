use Rattle.luks_trials.proofs.OptionFacts.{shut_by}
use Rattle.luks_trials.proofs.anew.opens_anew.Goals as goal

pub returns-clause-none : goal.returns-clause-none
returns-clause-none g c = λ tells old new stands is. shut_by c.opens.result _ _ (c.opens.ensures.opens tells new is)
