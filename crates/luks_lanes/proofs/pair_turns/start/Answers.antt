use Rattle.luks_rounds.proofs.PairFacts.{start_words}
use Rattle.luks_lanes.proofs.pair_turns.start.Goals as goal

pub returns : goal.returns
returns c = start_words
