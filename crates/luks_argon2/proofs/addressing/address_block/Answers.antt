use Rattle.std.proofs.Common.{refl}
use Rattle.luks_argon2.specs.Argon2.{address_block}
use Rattle.luks_argon2.proofs.addressing.address_block.Goals as goal

pub returns : goal.returns
unfolding address_block
returns c = rw (c.compressed-2.ensures, c.compressed.ensures, c.variant_number.ensures.exact) refl
