use Rattle.luks_aes.proofs.BlockFacts.{sum_vector}
use Rattle.luks_aes.proofs.block.key_added.Goals as goal

pub returns-clause-value : goal.returns-clause-value
returns-clause-value c = sum_vector c.args.s c.args.key c.sum.result c.sum.ensures.plane c.sum.ensures.bytes
