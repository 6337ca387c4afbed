use Rattle.std.proofs.Common.{arith}
use Rattle.luks_lanes.proofs.ByteFacts.{words_read}
use Rattle.luks_lanes.proofs.TurnFacts.{below_eight}
use Rattle.luks_lanes.proofs.WideFacts.{below_one}
use Rattle.luks_lanes.proofs.single_turns.ArrayU328Lanes.load.Goals as goal

pub returns : goal.returns
returns c = below_one _ (λ there.
    words_read c.args.row.now _ (λ i. (c.type_inv.row i).fits) 0 8 (omega (arith, there)) (below_eight _
    (c.load_or_zero.ensures (omega (arith, there))) (c.load_or_zero-2.ensures (omega (arith, there)))
    (c.load_or_zero-3.ensures (omega (arith, there))) (c.load_or_zero-4.ensures (omega (arith, there)))
    (c.load_or_zero-5.ensures (omega (arith, there))) (c.load_or_zero-6.ensures (omega (arith, there)))
    (c.load_or_zero-7.ensures (omega (arith, there))) (c.load_or_zero-8.ensures (omega (arith, there)))))
