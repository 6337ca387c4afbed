use Rattle.std.proofs.Common.{arith}
use Rattle.luks_wide_keeping.proofs.areas.slot_past.Goals as goal

-- a keyslot has a number below 32
pub returns : goal.returns
returns c = λ n x. c.loop-n.invariant n (let low = x.is.0 in omega (arith, low, c.loop-n-test.false)) x
