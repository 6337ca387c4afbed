use Rattle.std.proofs.Common.{◌∙◌, ap}
use Rattle.luks_making.specs.Keyslots.{new_members}
use Rattle.luks_making.specs.With.{with_slot}
use Rattle.luks_meta.specs.Content.{area_len, content}
use Rattle.luks2_editing.proofs.FreshFacts.{fresh_fits, fresh_gained}
use Rattle.luks2_editing.proofs.sealed_metadata.gained_fresh.Goals as goal

pub with_new_slot-requires : goal.with_new_slot-requires
with_new_slot-requires c =
    let f = new_members c.args.new.now in
    let can = c.requires.suits in
    rw c.fresh_keyslot.ensures (record {
      number = c.requires.number;
      object = can.digest.object;
      digest = can.digest.there;
      fits = fresh_fits (area_len c.args.meta) (content c.args.meta) c.args.digest c.args.key_bytes f can c.new_fits.ensures;
      large = can.large;
      within = can.within;
    })

pub returns-in-Ok-clause-made : goal.returns-in-Ok-clause-made
returns-in-Ok-clause-made c =
    fresh_gained (area_len c.args.meta) (content c.args.meta) (content c.in-Ok.made) c.args.slot c.args.digest c.args.key_bytes (new_members c.args.new.now) c.args.meta.held
    c.with_new_slot.ensures.unique c.requires.number c.requires.suits c.new_fits.ensures (c.in-Ok.ensures.value ∙ ap (λ s. with_slot c.args.slot c.args.digest s (content c.args.meta)) c.fresh_keyslot.ensures)
