use Rattle.serde_json.specs.View.{view}
use Rattle.luks_wider.proofs.WideAccepting.{accepted_of}
use Rattle.luks_wider.proofs.underway.Underway.reencryption.Goals as goal

pub reencrypt_slot-requires-clause-rules : goal.reencrypt_slot-requires-clause-rules
reencrypt_slot-requires-clause-rules c = accepted_of c.args.self.now.len (view c.args.self.now.value) c.args.self.now.held
