use Rattle.luks_wider.specs.Underways.{content}
use Rattle.luks_wide_keeping.proofs.LayoutFacts.{fits_here, least_here, least_segment}
use Rattle.luks_wide_keeping.proofs.areas.judge_layout.Goals as goal

pub returns-in-Some-clause-refused : goal.returns-in-Some-clause-refused
returns-in-Some-clause-refused c =
    least_segment c.args.copy.now.header.hdr_size (content c.args.copy.now.meta) c.args.payload c.args.total c.in-Some.n c.in-Some.ensures.0 c.in-Some.ensures.1

pub returns-in-None-clause-refused : goal.returns-in-None-clause-refused
returns-in-None-clause-refused c =
    least_here c.args.copy.now.header.hdr_size (content c.args.copy.now.meta) c.args.payload c.args.total c.in-None.ensures c.judge_areas.result c.judge_areas.ensures.refused

pub returns-in-None-clause-fits : goal.returns-in-None-clause-fits
returns-in-None-clause-fits c =
    fits_here c.args.copy.now.header.hdr_size (content c.args.copy.now.meta) c.args.payload c.args.total c.in-None.ensures c.judge_areas.result c.judge_areas.ensures.fits
