use Rattle.std.proofs.Common.{◌≡◌, ℕ, ◌<◌}
use Rattle.sha2.specs.Sha256.{digest_bytes}
use Rattle.luks_rounds.specs.Pair.{lane}
use Rattle.luks_lanes.specs.Turns.{block_at}
use Rattle.luks_lanes.proofs.pair_turns.ArrayU32x48Lanes.store.Given as goal

-- the values so far are written
abbrev pub invariant-loop-j : goal.invariant-loop-j
invariant-loop-j l = (k : ℕ) → k < l.j → block_at 32 l.row k ≡ digest_bytes (lane k l.self) 8
