use Rattle.serde_json.specs.View.{view}
use Rattle.luks_contradictions.proofs.Ordered.{least_place, no_place}
use Rattle.luks_contradictions.proofs.finding.first_contradiction.Goals as goal

pub returns-in-Some-clause-least : goal.returns-in-Some-clause-least
returns-in-Some-clause-least c = least_place (view c.args.value.now) c.in-Some.place c.in-Some.ensures

pub returns-in-Some-clause-none : goal.returns-in-Some-clause-none
returns-in-Some-clause-none c = λ e. absurd (cc)

pub returns-in-None-clause-none : goal.returns-in-None-clause-none
returns-in-None-clause-none c = λ e. no_place (view c.args.value.now) c.in-None.ensures
