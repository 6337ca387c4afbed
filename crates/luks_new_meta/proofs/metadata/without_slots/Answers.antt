use Rattle.luks_making.proofs.ErasureFacts.{held_emptied}
use Rattle.luks_meta.specs.Content.{area_len, content}
use Rattle.luks_new_meta.proofs.metadata.without_slots.Goals as goal

pub of_value-requires : goal.of_value-requires
of_value-requires c =
    let meta = c.args.meta in
    rw c.area_len-len.ensures (rw c.in_ok-value.ensures (rw c.into_value.ensures (
    held_emptied (area_len meta) (content meta) meta.held)))
