use Rattle.std.proofs.Common.{arith, refl}
use Rattle.luks_rounds.proofs.PairFacts.{below_two}
use Rattle.luks_lanes.proofs.pair_diffusion.numbers_from.Goals as goal

pub returns : goal.returns
returns c = below_two _ (omega arith) refl
