use Rattle.serde_json.specs.View.{view}
use Rattle.luks_making.proofs.MapFacts.{same_ok}
use Rattle.luks_making.proofs.StepFacts.{token_steps}
use Rattle.luks_making.proofs.amended.with_token.Goals as goal

pub returns : goal.returns
returns c = same_ok c.with_object.result _ _ (token_steps c.args.number _ _ _ (view c.args.value) c.number_text.ensures c.in_ok-own.ensures.cases) c.with_object.ensures
