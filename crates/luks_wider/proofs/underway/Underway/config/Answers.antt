use Rattle.serde_json.specs.View.{view}
use Rattle.luks_wider.proofs.WideAccepting.{accepted_of}
use Rattle.luks_wider.proofs.underway.Underway.config.Goals as goal

pub config_in-requires : goal.config_in-requires
config_in-requires c = accepted_of c.args.self.now.len (view c.args.self.now.value) c.args.self.now.held
