use Rattle.std.proofs.Common.{refl}
use Rattle.luks_formatting.proofs.laws.none_chosen_is_as_the_digest.Goals as goal

pub returns : goal.returns
returns c given format random size = rw size refl
