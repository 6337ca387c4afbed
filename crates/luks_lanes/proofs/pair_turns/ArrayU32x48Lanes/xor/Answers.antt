use Rattle.luks_lanes.proofs.TurnFacts.{below_eight, digest_xor}
use Rattle.luks_lanes.proofs.pair_turns.ArrayU32x48Lanes.xor.Goals as goal

pub returns : goal.returns
returns c = λ j lt. digest_xor _ _ _ 8 (below_eight _ (c.xor.ensures j lt) (c.xor-2.ensures j lt) (c.xor-3.ensures j lt) (c.xor-4.ensures j lt)
    (c.xor-5.ensures j lt) (c.xor-6.ensures j lt) (c.xor-7.ensures j lt) (c.xor-8.ensures j lt))
