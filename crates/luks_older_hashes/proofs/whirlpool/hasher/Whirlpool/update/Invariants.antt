use Rattle.std.proofs.Common.{List, ℕ, ◌++◌, take}
use Rattle.luks_older_hashes.specs.WhirlpoolHolding.{Holds}
use Rattle.luks_older_hashes.proofs.whirlpool.hasher.Whirlpool.update.Given as goal

abbrev pub invariant-loop-byte : goal.invariant-loop-byte
invariant-loop-byte l = (m : List ℕ) → Holds l.fn.self m → Holds l.self (m ++ take l.byte-index l.bytes)
