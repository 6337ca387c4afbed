use Rattle.std.proofs.Common.{◌+◌, ◌*◌, ◌≤◌, length, arith}
use Rattle.luks_finding.proofs.BlockFacts.{begins-inside}
use Rattle.luks_finding.proofs.signs.first_sign.Goals as goal

pub returns-clause-found : goal.returns-clause-found
returns-clause-found c = λ k begins.
    let inside : 512 * k + 8 ≤ length c.args.block.now = begins-inside c.args.block.now (512 * k) begins in
    c.loop-index.invariant k (omega (arith, inside)) begins
