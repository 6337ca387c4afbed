use Rattle.std.proofs.Common.{refl}
use Rattle.luks_lanes.proofs.TurnFacts.{below_eight}
use Rattle.luks_lanes.proofs.WideFacts.{wide_xor}
use Rattle.luks_lanes.proofs.wide_turns.ArrayU648Lanes.xor.Goals as goal

pub returns : goal.returns
returns c = λ j lt. wide_xor _ _ _ 8 (below_eight _ refl refl refl refl refl refl refl refl)
