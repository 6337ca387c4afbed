use Rattle.std.proofs.Common.{refl}
use Rattle.luks_argon2.specs.Indexing.{place_in_window}
use Rattle.luks_argon2.proofs.indexing.place_in_window.Goals as goal

pub returns-clause-exact : goal.returns-clause-exact
unfolding place_in_window
returns-clause-exact c = refl
