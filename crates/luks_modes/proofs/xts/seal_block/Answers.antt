use Rattle.std.proofs.Common.{ap, ap₂, ◌∙◌}
use Rattle.luks_aes.specs.Aes.{Aes}
use Rattle.luks_modes.specs.Xts.{xor_block, sealed_under}
use Rattle.luks_modes.proofs.xts.seal_block.Goals as goal

pub returns : goal.returns
unfolding sealed_under
returns c =
    let key = c.args.key.now in
    let block = c.args.block.now in
    c.copy_from_slice.ensures.after
    ∙ c.xor_block-2.ensures
    ∙ ap₂ xor_block
    (c.encrypt-sealed.ensures.value ∙ ap (Aes key) (c.xor_block.ensures ∙ ap (xor_block block) c.to_le_bytes-mask.ensures))
    c.to_le_bytes-mask.ensures
