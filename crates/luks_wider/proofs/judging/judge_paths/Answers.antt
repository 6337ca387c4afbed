use Rattle.serde_json.specs.View.{view}
use Rattle.luks_wider.proofs.WideRowFaults.{judged_least}
use Rattle.luks_wider.proofs.judging.judge_paths.Goals as goal

pub returns-in-Some-clause-row : goal.returns-in-Some-clause-row
returns-in-Some-clause-row c =
    rw c.fault_of.ensures
    (judged_least c.args.test (view c.args.content.value.now) c.in-Some.place c.wide_place_path.result c.in-Some.ensures.least c.wide_place_path.ensures c.args.content.len)
