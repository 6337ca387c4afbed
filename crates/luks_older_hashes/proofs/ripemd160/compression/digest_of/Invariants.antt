use Rattle.std.proofs.Common.{◌≡◌, ◌*◌, length, take}
use Rattle.luks_older_hashes.specs.Ripemd160.{digest_bytes}
use Rattle.luks_older_hashes.proofs.ripemd160.compression.digest_of.Given as goal

abbrev pub invariant-loop-i : goal.invariant-loop-i
invariant-loop-i l = (length l.out ≡ 20) × (take (4 * l.i) l.out ≡ digest_bytes l.state l.i)
