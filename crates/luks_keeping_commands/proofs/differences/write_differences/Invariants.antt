use Rattle.std.proofs.Common.{take}
use Rattle.std.specs.Fmt.{HasWritten, IsPlainFormatter}
use Rattle.luks_keeping_commands.specs.Differences.{difference_lines}
use Rattle.luks_keeping_commands.proofs.differences.write_differences.Given as goal

-- the lines of the keyslots before this one are written
abbrev pub invariant-loop-n : goal.invariant-loop-n
invariant-loop-n g l =
    IsPlainFormatter l.fn.f
    → HasWritten g.W.Write.write_str_gives l.fn.f (difference_lines l.volume 0 (take l.n l.keyslots)) l.f
