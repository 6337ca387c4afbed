use Rattle.std.proofs.Common.{◌∙◌, ap}
use Rattle.luks_aes.specs.Aes.{inverse_mix_columns, inverse_shift_rows, inverse_sub_bytes}
use Rattle.luks_aes.proofs.LinearFacts.{sum_block, inverse_sub_block}
use Rattle.luks_aes.proofs.rounds.undo_round.Goals as goal

pub returns : goal.returns
returns c = λ b low.
    inverse_sub_block c.inverse_shift_rows-moved.result c.inverse_sub_bytes.result b (λ k h. c.inverse_sub_bytes.ensures.bytes k b h low)
    ∙ ap inverse_sub_bytes (c.inverse_shift_rows-moved.ensures.each b
    ∙ ap inverse_shift_rows (c.inverse_mix_columns-unmixed.ensures.each b
    ∙ ap inverse_mix_columns (sum_block c.args.s c.args.key c.added-sum.result b (λ k h. c.added-sum.ensures.bytes k b h))))
