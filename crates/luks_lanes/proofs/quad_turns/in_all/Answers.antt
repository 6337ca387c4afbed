use Rattle.luks_rounds.proofs.QuadFacts.{word_all}
use Rattle.luks_lanes.proofs.quad_turns.in_all.Goals as goal

pub returns : goal.returns
returns c = word_all c.args.x
