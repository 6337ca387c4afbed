use Rattle.luks_lanes.proofs.Sha1Facts.{below_five, words_xor}
use Rattle.luks_lanes.proofs.quad_turns.ArrayU32x45Lanes.xor.Goals as goal

pub returns : goal.returns
returns c = λ j lt. words_xor _ _ _ 5 (below_five _ (c.xor.ensures j lt) (c.xor-2.ensures j lt) (c.xor-3.ensures j lt) (c.xor-4.ensures j lt) (c.xor-5.ensures j lt))
