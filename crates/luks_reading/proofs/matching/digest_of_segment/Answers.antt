use Rattle.std.proofs.Common.{arith}
use Rattle.luks_reading.proofs.matching.digest_of_segment.Goals as goal

pub returns-clause-none : goal.returns-clause-none
returns-clause-none c = λ e m x. c.loop-number.invariant m (omega (arith, x.numbered, c.loop-number-test.false)) x
