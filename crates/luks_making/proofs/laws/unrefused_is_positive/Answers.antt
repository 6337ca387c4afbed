use Rattle.luks_making.proofs.KdfFacts.{unrefused_positive}
use Rattle.luks_making.proofs.laws.unrefused_is_positive.Goals as goal

pub returns : goal.returns
returns c = λ allowed asked few off. unrefused_positive allowed asked.iterations asked.chosen few off
