use Rattle.std.proofs.Common.{refl, arith}
use Rattle.luks_argon2.proofs.HasherFacts.{Holds_more}
use Rattle.luks_argon2.proofs.hasher.Blake2b.push_into_last.Goals as goal

pub returns : goal.returns
returns c = λ n m held. Holds_more n c.args.self.now _ m c.args.byte held (omega arith) c.requires refl refl refl refl
