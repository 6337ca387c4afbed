use Rattle.std.proofs.Common.{sym, subst}
use Rattle.luks_making.specs.Keyslots.{new_members}
use Rattle.luks_making.specs.Unchanged.{ChangesSlot}
use Rattle.luks_making.proofs.ChangeFacts.{slot_renewed}
use Rattle.luks_meta.specs.Content.{area_len, content}
use Rattle.luks2_editing.proofs.sealed_metadata.renewed.Goals as goal

pub returns-in-Ok-clause-made : goal.returns-in-Ok-clause-made
returns-in-Ok-clause-made c =
    let f = new_members c.args.new.now in
    let j = content c.args.meta in
    let is = c.in-Ok.ensures.value in
    record {
      is = is;
      changes = subst (λ k. ChangesSlot c.args.slot f j k) (sym is)
          (slot_renewed (area_len c.args.meta) c.args.slot f j c.args.meta.held.content c.requires c.new_fits.ensures);
    }
