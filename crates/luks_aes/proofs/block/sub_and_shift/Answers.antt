use Rattle.std.proofs.Common.{◌∙◌, ap}
use Rattle.luks_aes.specs.Aes.{shift_rows}
use Rattle.luks_aes.proofs.BlockFacts.{shift_vector}
use Rattle.luks_aes.proofs.block.sub_and_shift.Goals as goal

pub returns-clause-value : goal.returns-clause-value
returns-clause-value c =
    shift_vector c.sub_bytes-substituted.result c.shifted.result c.shifted.ensures.plane c.shifted.ensures.bytes
    ∙ ap shift_rows c.sub_bytes-substituted.ensures.value
