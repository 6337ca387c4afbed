use Rattle.std.proofs.Common.{add-one, arith}
use Rattle.luks_making.specs.Converted.{source_members, source_slot_members}
use Rattle.luks_making.proofs.NewAreaFacts.{start_after, start_first, start_same}
use Rattle.luks_making.proofs.SourceFacts.{slot_found, slot_missing}
use Rattle.luks_making.proofs.source_volume.area_start.Goals.{in-Some, in_default}
use Rattle.luks_making.proofs.source_volume.area_start.Goals as goal

pub loop-n-init : goal.loop-n-init
loop-n-init c = record { last = start_first (source_members c.args.volume.now); short = omega arith }

pub loop-n-preserved : goal.loop-n-preserved
loop-n-preserved c =
    let n = c.loop-n.n in
    let so_far = c.loop-n.invariant in
    elim c.match-volume-n.branch [
      | in-Some w ↦ (
          let is = slot_found c.args.volume.now n w.in-Some.slot w.in-Some.is in
          let next = start_after (source_members c.args.volume.now) n (source_slot_members w.in-Some.slot) is in
          let size = w.area_size-start.ensures.size in
          let few = w.area_size-start.ensures.short in
          let from = so_far.last in
          let end = w.start-is in
          let before = so_far.short in
          record { last = rw add-one (omega (arith, size, next, from, end)); short = omega (arith, end, before, few) })
      | in_default w ↦ (
          let next = start_same (source_members c.args.volume.now) n (slot_missing c.args.volume.now n w.in_default.is) in
          let from = so_far.last in
          let end = w.start-is in
          let before = so_far.short in
          record { last = rw add-one (omega (arith, next, from, end)); short = omega (arith, end, before) })
    ]
