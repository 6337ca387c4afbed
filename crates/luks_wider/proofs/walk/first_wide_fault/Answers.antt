use Rattle.serde_json.specs.View.{view}
use Rattle.luks_wider.proofs.WideWalking.{least_place, no_place}
use Rattle.luks_wider.proofs.walk.first_wide_fault.Goals as goal

pub returns-in-Some-clause-least : goal.returns-in-Some-clause-least
returns-in-Some-clause-least c = least_place c.args.test (view c.args.value.now) c.in-Some.place c.in-Some.ensures

pub returns-in-Some-clause-none : goal.returns-in-Some-clause-none
returns-in-Some-clause-none c = λ e. absurd (cc)

pub returns-in-None-clause-none : goal.returns-in-None-clause-none
returns-in-None-clause-none c = λ e. no_place c.args.test (view c.args.value.now) c.in-None.ensures
