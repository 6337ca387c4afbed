use Rattle.std.proofs.Common.{◌∙◌}
use Rattle.luks_argon2.proofs.block_compression.compressed.Goals as goal

pub returns : goal.returns
returns c = c.put.ensures ∙ c.compress.ensures
