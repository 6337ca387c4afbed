use Rattle.serde_json.specs.View.{view}
use Rattle.luks_making.specs.Keyslots.{new_members}
use Rattle.luks_making.proofs.RoomFacts.{held_added}
use Rattle.luks_meta.specs.Content.{area_len, content}
use Rattle.luks_new_meta.proofs.metadata.with_slot.Goals as goal

pub of_value-requires : goal.of_value-requires
of_value-requires c =
    let meta = c.args.meta in
    rw c.area_len-len.ensures (
    held_added (area_len meta) c.args.to c.args.by (new_members c.args.new.now) (content meta) (view c.in_ok-value.value)
    meta.held c.in_ok-value.ensures.unique c.requires.to c.requires.by c.new_fits.ensures c.in_ok-value.ensures.added)
