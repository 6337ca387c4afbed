use Rattle.std.proofs.Common.{take}
use Rattle.std.specs.Fmt.{HasWritten, IsPlainFormatter}
use Rattle.luks_keeping.specs.LostTexts.{lost_lines}
use Rattle.luks_keeping.proofs.lost.write_lost.Given as goal

-- the lines of the keyslots before this one are written
abbrev pub invariant-loop-n : goal.invariant-loop-n
invariant-loop-n g l =
    IsPlainFormatter l.fn.f
    → HasWritten g.W.Write.write_str_gives l.fn.f (lost_lines 0 (take l.n l.keyslots)) l.f
