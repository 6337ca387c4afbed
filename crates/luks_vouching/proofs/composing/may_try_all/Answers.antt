use Rattle.std.proofs.Common.{◌/◌, length, arith}
use Rattle.luks_vouching.proofs.BoundFacts.{before_le}
use Rattle.luks_vouching.proofs.composing.may_try_all.Goals as goal

pub all_may-requires-clause-inside : goal.all_may-requires-clause-inside
all_may-requires-clause-inside c =
    let le = before_le c.args.first.now c.args.second.now (length c.args.first.now / 512) in
    let is = c.differing.ensures in
    omega (arith, le, is)
