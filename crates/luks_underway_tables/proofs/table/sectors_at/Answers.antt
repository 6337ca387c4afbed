use Rattle.std.proofs.Common.{◌∙◌}
use Rattle.luks_underway_tables.proofs.PartFacts.{sectors_told}
use Rattle.luks_underway_tables.proofs.table.sectors_at.Goals as goal

pub returns-in-Some-clause-are : goal.returns-in-Some-clause-are
returns-in-Some-clause-are c =
    let told = c.in-Some.ensures.some in
    rw told.is (c.sectors_of.ensures.are ∙ sectors_told c.args.end told.object c.in-Some.segment told.tells_members)
