use Rattle.std.proofs.Common.{codes, ap}
use Rattle.serde_json.specs.View.{view}
use Rattle.luks_making.specs.Changing.{set_member}
use Rattle.luks_making.proofs.MapFacts.{same_ok, text_view}
use Rattle.luks_making.proofs.source_volume.config_with_region.Goals as goal

pub returns : goal.returns
returns c = same_ok c.set_member.result _ _ (ap (λ t. set_member (codes "keyslots_size") t (view c.args.config)) (text_view _ _ c.in_ok-size.ensures.ok)) c.set_member.ensures
