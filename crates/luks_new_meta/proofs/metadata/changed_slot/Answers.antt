use Rattle.luks_making.specs.Keyslots.{new_members}
use Rattle.luks_making.proofs.ChangeFacts.{held_changed}
use Rattle.luks_meta.specs.Content.{area_len, content}
use Rattle.luks_new_meta.proofs.metadata.changed_slot.Goals as goal

pub of_value-requires : goal.of_value-requires
of_value-requires c =
    let meta = c.args.meta in
    rw c.area_len-len.ensures (rw c.in_ok-value.ensures (rw c.into_value.ensures (
    held_changed (area_len meta) c.args.number (new_members c.args.new.now) (content meta) meta.held c.requires c.new_fits.ensures)))
