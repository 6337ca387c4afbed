use Rattle.std.proofs.Common.{ap, rules}
use Rattle.std.proofs.lemmas.List.{take_all}
use Rattle.std.proofs.Output.{has_written_append, has_written_of_eq}
use Rattle.luks_map.specs.Drawing.{map_lines}
use Rattle.luks_map.proofs.LineFacts.{next_lines, next_reach}
use Rattle.luks_map.proofs.drawing.draw_rows.Goals as goal

pub loop-row-preserved : goal.loop-row-preserved
loop-row-preserved g c =
    let reached = c.loop-row.invariant.0 in (
      rw (c.farther-reached.ensures, c.reach.ensures, reached) (next_reach c.loop-row.row-index c.args.rows.now _ c.loop-row-test.true),
      λ plain.
          let before = c.loop-row.invariant.1 plain in
          let gap = has_written_append _ _ _ _ _ _ before (c.draw_gap.ensures before.plain (search rules)) in
          let row = has_written_append _ _ _ _ _ _ gap (c.draw_row.ensures gap.plain (search rules)) in
          has_written_of_eq _ _ _ _ _ (rw (c.place.ensures, reached) (next_lines c.args.total c.loop-row.row-index c.args.rows.now _ c.loop-row-test.true)) row,
    )

pub returns : goal.returns
returns g c plain ok =
    has_written_of_eq _ _ _ _ _ (ap (map_lines c.args.total 0) (take_all _ _ c.loop-row-test.false)) (c.loop-row.invariant.1 plain)
