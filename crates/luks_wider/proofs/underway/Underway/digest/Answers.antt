use Rattle.serde_json.specs.View.{view}
use Rattle.luks_wider.proofs.WideAccepting.{accepted_of}
use Rattle.luks_wider.proofs.underway.Underway.digest.Goals as goal

pub digest_in-requires : goal.digest_in-requires
digest_in-requires c = accepted_of c.args.self.now.len (view c.args.self.now.value) c.args.self.now.held
