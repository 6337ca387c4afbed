use Rattle.std.proofs.Common.{take}
use Rattle.std.specs.Fmt.{HasWritten, IsPlainFormatter}
use Rattle.luks_keeping.specs.ComparisonTexts.{keyslot_lines}
use Rattle.luks_keeping.proofs.comparison.write_keyslots.Given as goal

abbrev pub invariant-loop-n : goal.invariant-loop-n
invariant-loop-n g l =
    IsPlainFormatter l.fn.f
    → HasWritten g.W.Write.write_str_gives l.fn.f (keyslot_lines 0 (take l.n l.keyslots)) l.f
