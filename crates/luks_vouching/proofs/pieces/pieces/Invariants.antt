use Rattle.std.proofs.Common.{◌≡◌}
use Rattle.luks_vouching.specs.Pieces.{pieces_before}
use Rattle.luks_vouching.proofs.pieces.pieces.Given as goal

-- those of the first `k` sectors were added
abbrev pub invariant-loop-k : goal.invariant-loop-k
invariant-loop-k l = l.found.items ≡ pieces_before l.first l.second l.k
