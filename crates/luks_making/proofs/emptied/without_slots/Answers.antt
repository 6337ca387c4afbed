use Rattle.serde_json.specs.View.{view}
use Rattle.luks_making.proofs.MapFacts.{same_ok}
use Rattle.luks_making.proofs.StepFacts.{emptied_steps}
use Rattle.luks_making.proofs.emptied.without_slots.Goals as goal

pub returns : goal.returns
returns c =
    same_ok c.take_slots.result _ _ (emptied_steps (view c.args.value) (view c.in_ok-value.value) (view c.in_ok-value-2.value) c.in_ok-value.ensures c.in_ok-value-2.ensures) c.take_slots.ensures
