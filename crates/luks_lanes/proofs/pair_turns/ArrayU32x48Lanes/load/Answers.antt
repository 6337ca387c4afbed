use Rattle.std.proofs.Common.{arith, ◌*◌}
use Rattle.luks_lanes.proofs.ByteFacts.{words_read}
use Rattle.luks_lanes.proofs.TurnFacts.{below_eight}
use Rattle.luks_lanes.proofs.pair_turns.ArrayU32x48Lanes.load.Goals as goal

pub returns : goal.returns
returns c = λ j lt there.
    words_read c.args.row.now _ (λ i. (c.type_inv.row i).fits) (j * 32) 8 (omega (arith, there)) (below_eight _
    (c.words_at.ensures j lt there) (c.words_at-2.ensures j lt there) (c.words_at-3.ensures j lt there) (c.words_at-4.ensures j lt there)
    (c.words_at-5.ensures j lt there) (c.words_at-6.ensures j lt there) (c.words_at-7.ensures j lt there) (c.words_at-8.ensures j lt there))
