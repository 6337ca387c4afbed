use Rattle.std.proofs.Common.{◌≡◌, ◌++◌}
use Rattle.luks_vouching.specs.Pieces.{bytes_from}
use Rattle.luks_vouching.proofs.pieces.add_bytes.Given as goal

-- those of the first `i` bytes were added
abbrev pub invariant-loop-i : goal.invariant-loop-i
invariant-loop-i l = l.found.items ≡ l.initial.found.items ++ bytes_from l.first l.second l.at l.i
