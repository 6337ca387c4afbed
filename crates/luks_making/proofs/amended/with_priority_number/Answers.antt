use Rattle.serde_json.specs.View.{view}
use Rattle.luks_making.proofs.MapFacts.{same_ok}
use Rattle.luks_making.proofs.StepFacts.{priority_steps}
use Rattle.luks_making.proofs.amended.with_priority_number.Goals as goal

pub returns-in-Some : goal.returns-in-Some
returns-in-Some c = same_ok c.map_with_object.result _ _ (priority_steps c.args.number c.in-Some.own (view c.args.keyslot) _ c.in-Some.is c.from.ensures) c.map_with_object.ensures
