use Rattle.std.proofs.Common.{arith}
use Rattle.std.proofs.lemmas.Bool.{false≢true}
use Rattle.luks_keeping.proofs.identity.shares_digest.Goals as goal

pub returns : goal.returns
returns c = (λ e. absurd (false≢true e), λ x. absurd (c.loop-n.invariant x.number (omega (arith, x.numbered, c.loop-n-test.false)) x.is))
