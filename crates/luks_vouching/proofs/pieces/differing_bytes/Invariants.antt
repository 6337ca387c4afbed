use Rattle.std.proofs.Common.{◌≡◌, length}
use Rattle.luks_vouching.specs.Pieces.{bytes_from}
use Rattle.luks_vouching.proofs.pieces.differing_bytes.Given as goal

-- those of the first `i` bytes were counted
abbrev pub invariant-loop-i : goal.invariant-loop-i
invariant-loop-i l = l.count ≡ length (bytes_from l.first l.second l.at l.i)
