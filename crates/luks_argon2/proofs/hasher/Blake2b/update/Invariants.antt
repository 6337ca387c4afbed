use Rattle.std.proofs.Common.{ℕ, List, ◌++◌, take}
use Rattle.luks_argon2.specs.Hasher.{Holds}
use Rattle.luks_argon2.proofs.hasher.Blake2b.update.Given as goal

abbrev pub invariant-loop-byte : goal.invariant-loop-byte
invariant-loop-byte l = (n : ℕ) (m : List ℕ) → Holds n l.fn.self m → Holds n l.self (m ++ take l.byte-index l.bytes)
