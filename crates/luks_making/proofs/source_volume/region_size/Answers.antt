use Rattle.std.proofs.Common.{arith}
use Rattle.luks_making.specs.Converted.{source_members}
use Rattle.luks_making.proofs.NewAreaFacts.{start_from}
use Rattle.luks_making.proofs.source_volume.region_size.Goals.{then-volume-area_start, else-volume-area_start}
use Rattle.luks_making.proofs.source_volume.region_size.Goals as goal

pub overflow_sub-result : goal.overflow_sub-result
overflow_sub-result c = elim c.if-volume-area_start.branch [
  | then-volume-area_start w ↦ (let end = w.end-is in omega (arith, end))
  | else-volume-area_start w ↦ (
      let end = w.end-is in
      let least = w.min-end.ensures in
      let behind = w.if-volume-area_start.false in
      let start = c.area_start.ensures.start in
      let from = start_from (source_members c.args.volume.now) 8 in
      omega (arith, end, least, behind, start, from))
]
