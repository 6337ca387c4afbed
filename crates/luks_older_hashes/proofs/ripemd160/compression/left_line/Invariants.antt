use Rattle.std.proofs.Common.{◌≡◌}
use Rattle.luks_older_hashes.specs.Ripemd160.{left_line}
use Rattle.luks_older_hashes.proofs.ripemd160.compression.left_line.Given as goal

abbrev pub invariant-loop-j : goal.invariant-loop-j
invariant-loop-j l = l.v ≡ left_line l.fn.first l.words l.j
