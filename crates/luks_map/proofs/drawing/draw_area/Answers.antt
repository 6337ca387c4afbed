use Rattle.std.proofs.Output.{has_written_of_eq}
use Rattle.luks_map.proofs.ColumnFacts.{area_drawn}
use Rattle.luks_map.proofs.drawing.draw_area.Goals as goal

pub returns : goal.returns
returns g c plain ok =
    has_written_of_eq _ _ _ _ _
    (rw (c.laid_out.ensures, c.laid_out-2.ensures, c.outside_mark-outside.ensures, c.end_of.ensures, c.overlap_mark-overlap.ensures)
    (area_drawn c.args.total c.args.reached c.args.part c.args.area.now))
    (c.writeln.ensures.writes plain ok)
