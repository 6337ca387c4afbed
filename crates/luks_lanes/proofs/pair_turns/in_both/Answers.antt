use Rattle.std.proofs.Common.{refl}
use Rattle.luks_rounds.proofs.PairFacts.{below_two}
use Rattle.luks_lanes.proofs.pair_turns.in_both.Goals as goal

pub returns : goal.returns
returns c = below_two _ refl refl
