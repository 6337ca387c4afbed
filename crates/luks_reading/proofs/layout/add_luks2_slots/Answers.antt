use Rattle.std.proofs.Common.{refl}
use Rattle.luks_meta.specs.Content.{content}
use Rattle.luks_reading.proofs.Luks2AreaFacts.{adds-slot, adds-no_slot, slot_start, slot_size}
use Rattle.luks_reading.proofs.layout.add_luks2_slots.Goals.{in-Some, in-None}
use Rattle.luks_reading.proofs.layout.add_luks2_slots.Goals as goal

pub loop-n-preserved : goal.loop-n-preserved
loop-n-preserved c = elim c.match-keyslot.branch [
  | in-Some w ↦
      let slot = w.in-Some.ensures.some in
      rw (w.areas-is, w.push.ensures) (adds-slot _ _ (content c.args.meta.now) _ _ c.loop-n-test.true
      (slot_start (content c.args.meta.now) slot.object c.loop-n.n w.in-Some.slot.area.offset slot.is slot.tells_members.4.3)
      (slot_size (content c.args.meta.now) slot.object c.loop-n.n w.in-Some.slot.area.size slot.is slot.tells_members.4.4) c.loop-n.invariant)
  | in-None w ↦ rw w.areas-is (adds-no_slot _ _ _ _ (w.in-None.ensures.none refl c.loop-n-test.true) c.loop-n.invariant)
]
