use Rattle.luks_making.specs.Keyslots.{new_members}
use Rattle.luks_making.proofs.RoomFacts.{gained_added, room as has_room, says_members}
use Rattle.luks_meta.specs.Content.{area_len, content}
use Rattle.luks2_editing.proofs.sealed_metadata.gained_like.Goals as goal

pub returns-in-Ok-clause-made : goal.returns-in-Ok-clause-made
returns-in-Ok-clause-made c =
    let len = area_len c.args.meta in
    let f = new_members c.args.new.now in
    let j = content c.args.meta in
    let k = content c.in-Ok.made in
    let held = c.args.meta.held in
    let unique = c.with_slot.ensures.unique in
    let added = c.in-Ok.ensures.value in
    let room = has_room len c.args.slot c.args.by_ f j k held.content unique c.requires.number c.requires.suits c.new_fits.ensures added in
    record {
      added = added;
      gains = gained_added len c.args.slot c.args.by_ f j k held unique c.requires.number c.requires.suits c.new_fits.ensures added;
      says = says_members added.slot room.fits;
    }
