use Rattle.std.proofs.Common.{◌++◌, take}
use Rattle.std.specs.Fmt.{HasWritten, IsPlainFormatter}
use Rattle.luks_show.specs.Luks1Lines.{common_lines, slot_line, slot_lines}
use Rattle.luks_show.proofs.luks1.list_luks1.Given as goal

abbrev pub invariant-loop-n : goal.invariant-loop-n
invariant-loop-n g l =
    IsPlainFormatter l.fn.f
    → HasWritten g.W.Write.write_str_gives l.fn.f (common_lines l.header.common ++ slot_lines slot_line 0 (take l.n l.slot-items)) l.f
