use Rattle.serde_json.specs.View.{view}
use Rattle.luks_making.specs.Keyslots.{new_members}
use Rattle.luks_making.proofs.MapFacts.{same_ok}
use Rattle.luks_making.proofs.StepFacts.{slot_steps}
use Rattle.luks_making.proofs.changed.renewed_slot.Goals as goal

pub returns : goal.returns
returns c =
    same_ok c.with_kdf.result _ _ (slot_steps (new_members c.args.new.now) (view c.args.keyslot) (view c.in_ok-moved.moved) c.in_ok-moved.ensures) c.with_kdf.ensures
