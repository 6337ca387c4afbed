use Rattle.serde_json.specs.View.{view}
use Rattle.luks_wider.proofs.WideAccepting.{accepted_of}
use Rattle.luks_wider.proofs.underway.Underway.token.Goals as goal

pub token_in-requires : goal.token_in-requires
token_in-requires c = accepted_of c.args.self.now.len (view c.args.self.now.value) c.args.self.now.held
