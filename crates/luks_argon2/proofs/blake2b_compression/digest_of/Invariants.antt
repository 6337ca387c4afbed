use Rattle.std.proofs.Common.{◌≡◌, ◌*◌, length, take}
use Rattle.luks_argon2.specs.Blake2b.{digest_bytes}
use Rattle.luks_argon2.proofs.blake2b_compression.digest_of.Given as goal

abbrev pub invariant-words : goal.invariant-words
invariant-words l = (length l.out ≡ 64) × (take (8 * l.i) l.out ≡ digest_bytes l.h l.i)
