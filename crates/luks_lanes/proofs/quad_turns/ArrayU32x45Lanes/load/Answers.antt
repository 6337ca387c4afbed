use Rattle.std.proofs.Common.{arith, ◌*◌, ◌∙◌}
use Rattle.luks_lanes.proofs.ByteFacts.{same_bytes, words_read}
use Rattle.luks_lanes.proofs.Sha1Facts.{below_five}
use Rattle.luks_lanes.proofs.quad_turns.ArrayU32x45Lanes.load.Goals as goal

pub returns : goal.returns
returns c = λ j lt there.
    same_bytes _ 5 ∙ words_read c.args.row.now _ (λ i. (c.type_inv.row i).fits) (j * 20) 5 (omega (arith, there)) (below_five _
    (c.words_at.ensures j lt there) (c.words_at-2.ensures j lt there) (c.words_at-3.ensures j lt there)
    (c.words_at-4.ensures j lt there) (c.words_at-5.ensures j lt there))
