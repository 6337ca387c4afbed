use Rattle.std.proofs.Output.{has_written_of_eq}
use Rattle.luks_map.proofs.ColumnFacts.{end_drawn}
use Rattle.luks_map.proofs.drawing.draw_end.Goals as goal

pub returns : goal.returns
returns g c plain ok =
    has_written_of_eq _ _ _ _ _
    (rw (c.laid_out.ensures, c.outside_mark-outside.ensures) (end_drawn c.args.total c.args.at c.args.name.now))
    (c.writeln.ensures.writes plain ok)
