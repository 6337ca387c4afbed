use Rattle.std.proofs.Common.{arith}
use Rattle.std.proofs.lemmas.Bool.{false≢true}
use Rattle.luks_reading.proofs.matching.has_keyslot.Goals as goal

pub returns : goal.returns
returns c = (λ e. absurd (false≢true e), λ x. absurd (c.loop-n.invariant x.slot (omega (arith, x.names.named, c.loop-n-test.false)) x.names))
