use Rattle.std.proofs.Common.{◌∙◌, ap}
use Rattle.luks_aes.specs.Aes.{inverse_mix_columns, inverse_shift_rows, inverse_sub_bytes}
use Rattle.luks_aes.proofs.block.undo_round.Goals as goal

pub returns : goal.returns
returns c =
    c.shift_and_sub_back.ensures.value
    ∙ ap (λ s. inverse_sub_bytes (inverse_shift_rows s)) (c.unmixed-unmixed.ensures.value ∙ ap inverse_mix_columns c.key_added-sum.ensures.value)
