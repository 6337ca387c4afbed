use Rattle.serde_json.specs.View.{view}
use Rattle.luks_making.specs.Keyslots.{new_members}
use Rattle.luks_making.proofs.MapFacts.{same_ok, text_view}
use Rattle.luks_making.proofs.StepFacts.{kdf_steps}
use Rattle.luks_making.proofs.changed.resalted_kdf.Goals as goal

pub returns : goal.returns
returns c =
    same_ok c.set_member-2.result _ _ (kdf_steps (new_members c.args.new.now) (view c.args.kdf) (view c.in_ok-salted.salted) _ _ c.from-iterations.ensures (text_view _ _ c.in_ok-salt.ensures) c.in_ok-salted.ensures)
    c.set_member-2.ensures
