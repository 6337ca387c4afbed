use Rattle.std.proofs.Common.{refl}
use Rattle.luks_argon2.specs.Blake2b.{initial}
use Rattle.luks_argon2.proofs.HasherFacts.{Holds_none}
use Rattle.luks_argon2.proofs.hasher.Blake2b.new.Goals as goal

pub returns : goal.returns
unfolding initial
returns c = Holds_none c.args.len _ refl refl refl
