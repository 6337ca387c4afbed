use Rattle.std.proofs.Common.{refl}
use Rattle.serde_json.specs.View.{view}
use Rattle.luks_wider.proofs.WideRowFaults.{small_least, small_none}
use Rattle.luks_wider.proofs.judging.judge_areas.Goals as goal

pub returns-in-Some-clause-row : goal.returns-in-Some-clause-row
returns-in-Some-clause-row c =
    let first = c.in-Some.ensures in
    (refl, (first.below, first.holds), small_least c.args.content.len (view c.args.content.value.now) c.in-Some.number first)

pub returns-in-None-clause-row : goal.returns-in-None-clause-row
returns-in-None-clause-row c = small_none c.args.content.len (view c.args.content.value.now) c.in-None.ensures
