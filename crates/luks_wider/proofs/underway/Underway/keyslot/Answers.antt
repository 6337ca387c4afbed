use Rattle.serde_json.specs.View.{view}
use Rattle.luks_wider.proofs.WideAccepting.{accepted_of}
use Rattle.luks_wider.proofs.underway.Underway.keyslot.Goals as goal

pub keyslot_in-requires : goal.keyslot_in-requires
keyslot_in-requires c = accepted_of c.args.self.now.len (view c.args.self.now.value) c.args.self.now.held
