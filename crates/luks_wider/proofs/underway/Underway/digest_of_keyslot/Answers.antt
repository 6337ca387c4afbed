use Rattle.serde_json.specs.View.{view}
use Rattle.luks_wider.proofs.WideAccepting.{accepted_of}
use Rattle.luks_wider.proofs.underway.Underway.digest_of_keyslot.Goals as goal

pub digest_of_keyslot-requires : goal.digest_of_keyslot-requires
digest_of_keyslot-requires c = accepted_of c.args.self.now.len (view c.args.self.now.value) c.args.self.now.held
