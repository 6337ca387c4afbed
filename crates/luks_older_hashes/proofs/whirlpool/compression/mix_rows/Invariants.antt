use Rattle.std.proofs.Common.{◌≡◌, ◌*◌, length, take}
use Rattle.luks_older_hashes.specs.Whirlpool.{rows_mixed}
use Rattle.luks_older_hashes.proofs.whirlpool.compression.mix_rows.Given as goal

abbrev pub invariant-loop-i : goal.invariant-loop-i
invariant-loop-i l = (length l.out ≡ 64) × (take (8 * l.i) l.out ≡ rows_mixed l.state l.i)
