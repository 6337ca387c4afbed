use Rattle.std.proofs.Common.{◌≡◌, ℕ, ◌<◌, length, slice_index, ◌*◌}
use Rattle.luks_argon2.specs.Blake2b.{word_at, rounds}
use Rattle.luks_argon2.proofs.blake2b_compression.compress.Given as goal

abbrev pub invariant-load : goal.invariant-load
invariant-load l = (length l.m ≡ 16) × ((k : ℕ) → k < l.i → slice_index l.m k ≡ word_at l.block (8 * k))

abbrev pub invariant-rounds : goal.invariant-rounds
invariant-rounds l = l.v ≡ rounds l.initial.v l.m l.i
