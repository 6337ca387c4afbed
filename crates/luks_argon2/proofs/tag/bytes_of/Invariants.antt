use Rattle.std.proofs.Common.{◌≡◌, ◌*◌, length, take}
use Rattle.luks_argon2.specs.Blake2b.{digest_bytes}
use Rattle.luks_argon2.proofs.tag.bytes_of.Given as goal

abbrev pub invariant-copy : goal.invariant-copy
invariant-copy l = (length l.bytes ≡ 1024) × (take (8 * l.i) l.bytes ≡ digest_bytes l.words l.i)
