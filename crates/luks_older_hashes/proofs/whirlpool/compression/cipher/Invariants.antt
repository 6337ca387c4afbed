use Rattle.std.proofs.Common.{◌≡◌}
use Rattle.luks_older_hashes.specs.Whirlpool.{round_key, state_after}
use Rattle.luks_older_hashes.proofs.whirlpool.compression.cipher.Given as goal

abbrev pub invariant-loop-r : goal.invariant-loop-r
invariant-loop-r l = (l.key ≡ round_key l.first_key l.r) × (l.state ≡ state_after l.first_key l.block l.r)
