use Rattle.std.proofs.Common.{length}
use Rattle.luks_vouching.proofs.search.+search.Given as goal

abbrev pub decreases-search : goal.decreases-search
decreases-search g l = length l.first.now
