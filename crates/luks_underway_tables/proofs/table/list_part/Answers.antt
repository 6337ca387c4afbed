use Rattle.std.proofs.Common.{◌∙◌, ap, refl, rules}
use Rattle.std.proofs.Output.{has_written_of_eq}
use Rattle.luks_wider.specs.Underways.{content}
use Rattle.luks_underway_tables.specs.Table.{segment_digest}
use Rattle.luks_underway_tables.proofs.PartFacts.{part_none, part_there, part_told}
use Rattle.luks_underway_tables.proofs.table.list_part.Goals as goal

pub returns-then-sectors-eq0 : goal.returns-then-sectors-eq0
returns-then-sectors-eq0 g c plain ok =
    let told = c.in-Some.ensures.some in
    let j = content c.args.meta.now in
    let key = segment_digest j c.args.n in
    has_written_of_eq _ _ _ _ _
    (part_none c.args.end c.args.place c.sectors_of-sectors.result key told.object c.in-Some.segment told.tells_members c.sectors_of-sectors.ensures.are (search rules)
    ∙ part_there c.args.end c.args.place c.args.n key j told.object told.is refl)
    (search rules)

pub returns : goal.returns
returns g c plain ok =
    let told = c.in-Some.ensures.some in
    has_written_of_eq _ _ _ _ _
    (part_told c.args.end c.args.place c.sectors_of-sectors.result c.digest_of.result told.object c.in-Some.segment told.tells_members c.sectors_of-sectors.ensures.are (search rules)
    ∙ part_there c.args.end c.args.place c.args.n c.digest_of.result (content c.args.meta.now) told.object told.is (c.digest_of.ensures ∙ ap (λ j. segment_digest j c.args.n) c.value.ensures))
    (c.write.ensures.writes plain ok)
