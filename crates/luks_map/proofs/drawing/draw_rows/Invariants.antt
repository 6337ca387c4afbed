use Rattle.std.proofs.Common.{◌≡◌, take}
use Rattle.std.specs.Fmt.{HasWritten, IsPlainFormatter}
use Rattle.luks_map.specs.Drawing.{map_lines}
use Rattle.luks_map.proofs.LineFacts.{reach_of}
use Rattle.luks_map.proofs.drawing.draw_rows.Given as goal

abbrev pub invariant-loop-row : goal.invariant-loop-row
invariant-loop-row g l = (l.reached ≡ reach_of 0 (take l.row-index l.rows))
    × (IsPlainFormatter l.fn.f → HasWritten g.W.Write.write_str_gives l.fn.f (map_lines l.total 0 (take l.row-index l.rows)) l.f)
