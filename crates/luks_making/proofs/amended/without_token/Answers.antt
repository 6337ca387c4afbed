use Rattle.serde_json.specs.View.{view}
use Rattle.luks_making.proofs.MapFacts.{same_ok}
use Rattle.luks_making.proofs.StepFacts.{token_left}
use Rattle.luks_making.proofs.amended.without_token.Goals as goal

pub returns : goal.returns
returns c = same_ok c.take_object.result _ _ (token_left c.args.number _ (view c.args.value) c.number_text.ensures) c.take_object.ensures
