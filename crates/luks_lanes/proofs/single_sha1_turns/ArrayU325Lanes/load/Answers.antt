use Rattle.std.proofs.Common.{arith, ◌∙◌}
use Rattle.luks_lanes.proofs.ByteFacts.{same_bytes, words_read}
use Rattle.luks_lanes.proofs.Sha1Facts.{below_five}
use Rattle.luks_lanes.proofs.WideFacts.{below_one}
use Rattle.luks_lanes.proofs.single_sha1_turns.ArrayU325Lanes.load.Goals as goal

pub returns : goal.returns
returns c = below_one _ (λ there.
    same_bytes _ 5 ∙ words_read c.args.row.now _ (λ i. (c.type_inv.row i).fits) 0 5 (omega (arith, there)) (below_five _
    (c.load_or_zero.ensures (omega (arith, there))) (c.load_or_zero-2.ensures (omega (arith, there)))
    (c.load_or_zero-3.ensures (omega (arith, there))) (c.load_or_zero-4.ensures (omega (arith, there)))
    (c.load_or_zero-5.ensures (omega (arith, there)))))
