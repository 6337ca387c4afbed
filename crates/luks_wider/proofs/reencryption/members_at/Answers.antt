use Rattle.serde_json.specs.View.{view}
use Rattle.luks_underway.specs.Reencryptions.{TellsReencryption}
use Rattle.luks_wider.proofs.Reencrypting.{is_reencryption, slot_is, slot_there, told_by}
use Rattle.luks_wider.proofs.reencryption.members_at.Goals as goal

pub unwrap-requires : goal.unwrap-requires
unwrap-requires c = slot_there _ c.object_at.result _ c.object_at.ensures c.requires.first.holds

pub unwrap-requires-2 : goal.unwrap-requires-2
unwrap-requires-2 c =
    c.read_reencryption.ensures.there (is_reencryption (view c.args.value.now) c.requires.rules c.args.number (view c.unwrap.result.now) c.requires.first
    (slot_is _ c.object_at.result c.unwrap.result _ c.object_at.ensures c.unwrap.ensures))

pub returns : goal.returns
returns c = record {
  object = view c.unwrap.result.now;
  is = slot_is _ c.object_at.result c.unwrap.result _ c.object_at.ensures c.unwrap.ensures;
  tells_members = told_by (TellsReencryption (view c.unwrap.result.now)) c.read_reencryption.result c.unwrap-2.result c.read_reencryption.ensures.tells c.unwrap-2.ensures;
}
