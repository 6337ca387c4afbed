use Rattle.std.proofs.Common.{refl, arith}
use Rattle.luks_argon2.proofs.HasherFacts.{Holds_full}
use Rattle.luks_argon2.proofs.hasher.Blake2b.push_into_next.Goals as goal

pub returns : goal.returns
returns c = λ n m held. Holds_full n c.args.self.now _ m c.args.byte held (omega arith) c.requires refl refl c.compress.ensures refl
