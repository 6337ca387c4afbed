use Rattle.std.proofs.Common.{ap, ap₂, ◌∙◌}
use Rattle.luks_aes.specs.Aes.{AesInverse}
use Rattle.luks_modes.specs.Xts.{xor_block, opened_under}
use Rattle.luks_modes.proofs.xts.open_block.Goals as goal

pub returns : goal.returns
unfolding opened_under
returns c =
    let key = c.args.key.now in
    let block = c.args.block.now in
    c.copy_from_slice.ensures.after
    ∙ c.xor_block-2.ensures
    ∙ ap₂ xor_block
    (c.decrypt-opened.ensures.value ∙ ap (AesInverse key) (c.xor_block.ensures ∙ ap (xor_block block) c.to_le_bytes-mask.ensures))
    c.to_le_bytes-mask.ensures
