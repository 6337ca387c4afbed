use Rattle.std.proofs.Common.{◌∙◌, ap}
use Rattle.luks_aes.specs.Aes.{inverse_sub_bytes}
use Rattle.luks_aes.proofs.BlockFacts.{shift_back_vector}
use Rattle.luks_aes.proofs.block.shift_and_sub_back.Goals as goal

pub returns-clause-value : goal.returns-clause-value
returns-clause-value c =
    c.inverse_sub_bytes.ensures.value
    ∙ ap inverse_sub_bytes (shift_back_vector c.args.s c.shifted_back-moved.result c.shifted_back-moved.ensures.plane c.shifted_back-moved.ensures.bytes)
