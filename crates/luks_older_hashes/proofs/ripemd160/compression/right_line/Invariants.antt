use Rattle.std.proofs.Common.{◌≡◌}
use Rattle.luks_older_hashes.specs.Ripemd160.{right_line}
use Rattle.luks_older_hashes.proofs.ripemd160.compression.right_line.Given as goal

abbrev pub invariant-loop-j : goal.invariant-loop-j
invariant-loop-j l = l.v ≡ right_line l.fn.first l.words l.j
