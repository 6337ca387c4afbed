use Rattle.std.proofs.Common.{ℕ, ◌<◌, List}
use Rattle.sha2.specs.Hashers.{Holds256}
use Rattle.luks_vouching.specs.Pieces.{numbered}
use Rattle.luks_vouching.proofs.SearchFacts.{MeetsAfter}
use Rattle.luks_vouching.proofs.piecing.try_pieces.Given as goal

-- none of a lesser number meets the checksum
abbrev pub invariant-loop-n : goal.invariant-loop-n
invariant-loop-n g l = (done : List ℕ) → Holds256 l.hasher done → (m : ℕ) → m < l.n → MeetsAfter l.sum done (numbered l.second l.found m l.first) → ⊥
