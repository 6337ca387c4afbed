use Rattle.std.proofs.Common.{◌∙◌, ap}
use Rattle.luks_aes.specs.Aes.{add_round_key, mix_columns, shift_rows}
use Rattle.luks_aes.specs.Planes.{block_of}
use Rattle.luks_aes.proofs.LinearFacts.{sum_block, sub_block}
use Rattle.luks_aes.proofs.rounds.round.Goals as goal

pub returns : goal.returns
returns c = λ b low.
    sum_block c.mix_columns-mixed.result c.args.key c.added.result b (λ k h. c.added.ensures.bytes k b h)
    ∙ ap (λ s. add_round_key s (block_of b c.args.key))
    (c.mix_columns-mixed.ensures.each b
    ∙ ap mix_columns (c.shift_rows-moved.ensures.each b
    ∙ ap shift_rows (sub_block c.args.s c.sub_bytes-substituted.result b (λ k h. c.sub_bytes-substituted.ensures.bytes k b h low))))
