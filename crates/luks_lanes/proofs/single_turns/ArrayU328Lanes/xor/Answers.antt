use Rattle.std.proofs.Common.{refl}
use Rattle.luks_lanes.proofs.TurnFacts.{below_eight, digest_xor}
use Rattle.luks_lanes.proofs.single_turns.ArrayU328Lanes.xor.Goals as goal

pub returns : goal.returns
returns c = λ j lt. digest_xor _ _ _ 8 (below_eight _ refl refl refl refl refl refl refl refl)
