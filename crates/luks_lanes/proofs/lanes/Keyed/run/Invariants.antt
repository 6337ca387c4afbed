use Rattle.std.proofs.Common.{◌≡◌, ℕ, ◌+◌, ◌*◌, ◌<◌, ◌≤◌, ◌-◌, List, length}
use Rattle.luks_lanes.specs.Turns.{HoldKey, block_at, hmac, turn, turns_xored}
use Rattle.luks_lanes.proofs.lanes.Keyed.run.Given as goal

-- of each block: the last turn made, and the turns so far xored
abbrev pub invariant-loop-count : goal.invariant-loop-count
invariant-loop-count g l =
    let lanes = g.L.Lanes in
    (key : List ℕ) (j : ℕ) → j < lanes.COUNT → j * lanes.LEN + lanes.LEN ≤ length l.row
    → length key ≡ lanes.BLOCK → HoldKey lanes.has_taken l.self.inner l.self.outer key
    → (lanes.bytes j l.turn ≡ turn (hmac lanes.digest key) (block_at lanes.LEN l.row j) (l.count - 1))
    × (lanes.bytes j l.block ≡ turns_xored (hmac lanes.digest key) (block_at lanes.LEN l.row j) (l.count - 1))
