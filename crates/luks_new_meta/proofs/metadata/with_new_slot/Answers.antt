use Rattle.std.proofs.Common.{◌∙◌, ap}
use Rattle.luks_making.specs.Keyslots.{slot_members}
use Rattle.luks_making.specs.With.{with_slot}
use Rattle.luks_making.proofs.AdditionFacts.{held_with}
use Rattle.luks_making.proofs.FreeNumberFacts.{unnamed_free}
use Rattle.luks_meta.specs.Content.{area_len, content}
use Rattle.luks_new_meta.proofs.metadata.with_new_slot.Goals as goal

pub of_value-requires : goal.of_value-requires
of_value-requires c =
    let meta = c.args.meta in
    let s = slot_members c.args.keyslot.now in
    let room = c.requires in
    let is = c.in_ok-value.ensures s c.in_ok-made.ensures in
    rw c.area_len-len.ensures (rw is (rw c.into_value.ensures (
    held_with (area_len meta) c.args.to c.args.digest s (content meta) room.object meta.held (record {
      number = room.number;
      unnamed = unnamed_free (area_len meta) c.args.to (content meta) meta.held.content room.number.free c.digests_stand_once.ensures;
      digest = room.digest;
      fits = room.fits;
      large = room.large;
      within = room.within;
    }))))

pub returns-clause-value : goal.returns-clause-value
returns-clause-value c =
    let s = slot_members c.args.keyslot.now in
    c.of_value.ensures.value ∙ c.in_ok-value.ensures s c.in_ok-made.ensures ∙ ap (with_slot c.args.to c.args.digest s) c.into_value.ensures
