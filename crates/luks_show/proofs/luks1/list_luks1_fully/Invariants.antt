use Rattle.std.proofs.Common.{◌++◌, take}
use Rattle.std.specs.Fmt.{HasWritten, IsPlainFormatter}
use Rattle.luks_show.specs.AllLines.{full_slot_lines, payload_bytes_line}
use Rattle.luks_show.specs.Luks1Lines.{common_lines, slot_lines}
use Rattle.luks_show.proofs.luks1.list_luks1_fully.Given as goal

abbrev pub invariant-loop-n : goal.invariant-loop-n
invariant-loop-n g l =
    IsPlainFormatter l.fn.f
    → HasWritten g.W.Write.write_str_gives l.fn.f
    ((common_lines l.header.common ++ payload_bytes_line l.header.common) ++ slot_lines (full_slot_lines l.header.common.key_bytes) 0 (take l.n l.slot-items)) l.f
