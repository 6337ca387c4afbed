use Rattle.serde_json.specs.View.{view}
use Rattle.luks_making.proofs.MapFacts.{same_ok}
use Rattle.luks_making.proofs.StepFacts.{without_steps}
use Rattle.luks_making.proofs.without.without_slot.Goals as goal

pub returns : goal.returns
returns c =
    same_ok c.take_object.result _ _ (without_steps c.args.number c.number_text-name.result.now (view c.args.value) (view c.in_ok-value.value) (view c.in_ok-value-2.value)
    c.number_text-name.ensures c.in_ok-value.ensures c.in_ok-value-2.ensures) c.take_object.ensures
