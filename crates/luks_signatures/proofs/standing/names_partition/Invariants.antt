use Rattle.std.proofs.Common.{ℕ, ◌+◌, ◌*◌, ◌<◌}
use Rattle.luks_area.specs.Ranges.{part}
use Rattle.luks_signatures.specs.Signatures.{IsPartition}
use Rattle.luks_signatures.proofs.standing.names_partition.Given as goal

-- none of the entries before is a partition
abbrev pub invariant-loop-k : goal.invariant-loop-k
invariant-loop-k l = (k : ℕ) → k < l.k → IsPartition (part l.sector (446 + 16 * k) 16) → ⊥
