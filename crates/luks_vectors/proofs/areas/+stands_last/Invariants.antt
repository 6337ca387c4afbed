use Rattle.std.proofs.Common.{length}
use Rattle.luks_vectors.proofs.areas.+stands_last.Given as goal

abbrev pub decreases-stands_last : goal.decreases-stands_last
decreases-stands_last l = length l.entries.now
