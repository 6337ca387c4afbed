use Rattle.std.proofs.Common.{refl}
use Rattle.luks_argon2.specs.Argon2.{first_block}
use Rattle.luks_argon2.proofs.starting.first_block.Goals as goal

pub returns : goal.returns
unfolding first_block
returns c = rw (c.words_of.ensures, c.variable_hash.ensures, c.two_numbers-number.ensures) refl
