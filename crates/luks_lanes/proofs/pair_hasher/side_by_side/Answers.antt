use Rattle.std.proofs.Common.{arith}
use Rattle.luks_lanes.proofs.PairHasherFacts.{eight_are}
use Rattle.luks_lanes.proofs.pair_hasher.side_by_side.Goals as goal

pub returns-clause-first : goal.returns-clause-first
returns-clause-first c = eight_are c.args.first.now _ _ _ _ _ _ _ _ (omega arith)
    c.beside.ensures.first c.beside-2.ensures.first c.beside-3.ensures.first c.beside-4.ensures.first
    c.beside-5.ensures.first c.beside-6.ensures.first c.beside-7.ensures.first c.beside-8.ensures.first

pub returns-clause-second : goal.returns-clause-second
returns-clause-second c = eight_are c.args.second.now _ _ _ _ _ _ _ _ (omega arith)
    c.beside.ensures.second c.beside-2.ensures.second c.beside-3.ensures.second c.beside-4.ensures.second
    c.beside-5.ensures.second c.beside-6.ensures.second c.beside-7.ensures.second c.beside-8.ensures.second
