use Rattle.std.proofs.Common.{refl}
use Rattle.luks_lanes.proofs.Sha1Facts.{below_five, words_xor}
use Rattle.luks_lanes.proofs.single_sha1_turns.ArrayU325Lanes.xor.Goals as goal

pub returns : goal.returns
returns c = λ j lt. words_xor _ _ _ 5 (below_five _ refl refl refl refl refl)
