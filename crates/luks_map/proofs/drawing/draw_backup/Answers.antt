use Rattle.std.proofs.Output.{has_written_of_eq}
use Rattle.luks_map.proofs.ColumnFacts.{backup_drawn}
use Rattle.luks_map.proofs.drawing.draw_backup.Goals as goal

pub returns : goal.returns
returns g c plain ok =
    has_written_of_eq _ _ _ _ _
    (rw (c.laid_out.ensures, c.laid_out-2.ensures, c.outside_mark-outside.ensures, c.end_of.ensures) (backup_drawn c.args.total c.args.n c.args.area.now))
    (c.writeln.ensures.writes plain ok)
