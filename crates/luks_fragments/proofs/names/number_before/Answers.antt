use Rattle.std.proofs.Common.{arith}
use Rattle.luks_fragments.proofs.names.number_before.Goals as goal

pub returns : goal.returns
returns c = λ n x.
    let low = x.low in
    let ended = c.loop-n-test.false in
    c.loop-n.invariant n (omega (arith, low, ended)) x
