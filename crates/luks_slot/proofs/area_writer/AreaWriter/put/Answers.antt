use Rattle.std.proofs.Common.{rules, inl, inr, ◌≡◌, ◌+◌, ◌⊎◌, ◌%◌, length}
use Rattle.luks_slot.proofs.WritingFacts.{byte_written}
use Rattle.luks_slot.proofs.area_writer.AreaWriter.put.Goals as goal
use Rattle.luks_slot.proofs.area_writer.AreaWriter.put.Goals.{then-place-via-then-place, then-place-via-else-place+then-place-self}

pub returns-in_ok-store-clause-more : goal.returns-in_ok-store-clause-more
returns-in_ok-store-clause-more g c tells wanted begun is =
    let writer = c.args.self.now in
    let stored = c.store.new.self in
    let whole : length writer.run ≡ 4096 = search rules in
    let full : (c.args.place % 4096 ≡ 4095) ⊎ (c.args.place + 1 ≡ writer.area.len) =
    elim c.then-place.branch [
      | then-place-via-then-place w ↦ inl w.if-place.true
      | then-place-via-else-place+then-place-self w ↦ inr w.if-place-self.true
    ] in
    byte_written (g.D.Device.bytes c.args.device.now) (g.D.Device.bytes c.store.new.device) writer.key stored.key wanted
    writer.run stored.run writer.area stored.area c.args.place c.args.byte
    c.store.ensures.same_key c.store.ensures.same_area begun is whole c.requires.in_area full
    (c.in_ok-store.ensures.value tells) (c.in_ok-store.ensures.alone tells)
