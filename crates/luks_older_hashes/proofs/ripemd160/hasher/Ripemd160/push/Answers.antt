use Rattle.std.proofs.Common.{refl, arith}
use Rattle.luks_older_hashes.proofs.Ripemd160HoldingFacts.{Holds_full, Holds_more}
use Rattle.luks_older_hashes.proofs.ripemd160.hasher.Ripemd160.push.Goals as goal

pub returns-then-used-lt63 : goal.returns-then-used-lt63
returns-then-used-lt63 c = λ m held. Holds_more c.args.self.now _ m c.args.byte _ held (omega arith) refl (omega arith) refl refl refl

pub returns : goal.returns
returns c = λ m held. Holds_full c.args.self.now _ m c.args.byte _ held (omega arith) refl (omega arith) refl c.compress.ensures
