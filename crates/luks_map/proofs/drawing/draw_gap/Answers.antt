use Rattle.std.proofs.Output.{has_written_of_eq}
use Rattle.luks_map.proofs.ColumnFacts.{gap_drawn}
use Rattle.luks_map.proofs.drawing.draw_gap.Goals as goal

pub returns : goal.returns
returns g c plain ok =
    has_written_of_eq _ _ _ _ _
    (rw (c.laid_out.ensures, c.laid_out-2.ensures, c.outside_mark-outside.ensures) (gap_drawn c.args.total c.args.from c.args.to c.if-to-from.false))
    (c.writeln.ensures.writes plain ok)
