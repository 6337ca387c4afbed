use Rattle.serde_json.specs.View.{view}
use Rattle.luks_making.proofs.MapFacts.{same_ok}
use Rattle.luks_making.proofs.StepFacts.{with_steps}
use Rattle.luks_making.proofs.with.with_slot.Goals as goal

pub returns : goal.returns
returns c = λ s is.
    same_ok c.with_object.result _ _ (with_steps c.args.number c.args.digest s _ _ _ (view c.args.value) (view c.in_ok-named.named) (view c.args.keyslot)
    c.number_text.ensures c.number_text-2.ensures c.number_text-3.ensures is c.in_ok-named.ensures) c.with_object.ensures
