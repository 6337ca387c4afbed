use Rattle.luks_reading.specs.declared.report.Data.TheVariants.{Elsewhere}
use Rattle.luks_wider.specs.Underways.{content}
use Rattle.luks_wide_keeping.proofs.LayoutFacts.{elsewhere, least_head, least_slot, no_fault, no_room}
use Rattle.luks_wide_keeping.proofs.areas.judge_areas.Goals as goal

pub returns-then-not-has_both_copies-clause-refused : goal.returns-then-not-has_both_copies-clause-refused
returns-then-not-has_both_copies-clause-refused c =
    least_head c.args.copy.now.header.hdr_size (content c.args.copy.now.meta) Elsewhere c.args.total (elsewhere c.args.copy.now.header.hdr_size (content c.args.copy.now.meta))
    (no_room c.args.copy.now.header.hdr_size c.args.total c.has_both_copies.result c.has_both_copies.ensures c.if-not-has_both_copies.true)

pub returns-in-Some-clause-refused : goal.returns-in-Some-clause-refused
returns-in-Some-clause-refused c =
    least_slot c.args.copy.now.header.hdr_size (content c.args.copy.now.meta) Elsewhere c.args.total c.in-Some.n (elsewhere c.args.copy.now.header.hdr_size (content c.args.copy.now.meta))
    (c.has_both_copies.ensures.0 c.if-not-has_both_copies.false) c.in-Some.ensures

pub returns-in-None-clause-fits : goal.returns-in-None-clause-fits
returns-in-None-clause-fits c =
    no_fault c.args.copy.now.header.hdr_size (content c.args.copy.now.meta) Elsewhere c.args.total (elsewhere c.args.copy.now.header.hdr_size (content c.args.copy.now.meta))
    (c.has_both_copies.ensures.0 c.if-not-has_both_copies.false) c.in-None.ensures
