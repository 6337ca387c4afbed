use Rattle.luks1_rebuilding.proofs.GivesFacts.{gives_here, gives_there, well_formed}
use Rattle.luks1_rebuilding.proofs.laws.rebuilt1_opens_alike.Goals as goal

pub returns-clause-well_formed : goal.returns-clause-well_formed
returns-clause-well_formed c = λ v old w g x formed. well_formed v old w g x formed

pub returns-clause-opens : goal.returns-clause-opens
returns-clause-opens c = λ v old w g x formed allowed n p a used. (
  gives_there v old w g x formed n used allowed p a,
  gives_here v old w g x formed n used allowed p a,
)
