use Rattle.std.proofs.Common.{◌∙◌, ap}
use Rattle.luks_aes.specs.Aes.{add_round_key, mix_columns}
use Rattle.luks_aes.proofs.block.round.Goals as goal

pub returns : goal.returns
returns c =
    c.key_added.ensures.value
    ∙ ap (λ s. add_round_key s c.args.key) (c.mixed-mixed.ensures.value ∙ ap mix_columns c.sub_and_shift-moved.ensures.value)
