use Rattle.serde_json.specs.View.{view}
use Rattle.luks_wider.proofs.Reencrypting.{is_slot}
use Rattle.luks_wider.proofs.reencryption.reencrypt_slot.Goals as goal

pub returns-in-Some : goal.returns-in-Some
returns-in-Some c = is_slot (view c.args.value.now) c.requires.consistent c.in-Some.number c.members_at.result c.in-Some.ensures c.members_at.ensures
