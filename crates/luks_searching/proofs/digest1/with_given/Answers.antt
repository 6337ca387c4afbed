use Rattle.std.proofs.Common.{arith}
use Rattle.luks_searching.proofs.DigestFacts.{as_it_stands, with_other}
use Rattle.luks_searching.proofs.digest1.with_given.Goals as goal

pub returns-in-0-clause-found : goal.returns-in-0-clause-found
returns-in-0-clause-found c =
    as_it_stands c.args.header.now c.args.digest.now c.args.slot c.differing_bits.result c.requires.header_long c.requires.long c.differing_bits.ensures c.in-0.is

pub returns-in_default-clause-found : goal.returns-in_default-clause-found
returns-in_default-clause-found c =
    let other = c.in_default in
    let most = c.if-bits-le-FEW_BITS.true in
    with_other c.args.header.now c.args.digest.now c.with_digest.result c.args.slot c.differing_bits.result c.requires.header_long c.requires.long c.with_digest.ensures
    c.differing_bits.ensures (omega (arith, other)) (omega (arith, most))
