use Rattle.std.proofs.Common.{◌≡◌, ◌-◌, List, ℕ}
use Rattle.luks_kdf.specs.Derivation.{HoldKey, hmac, turn, turns_xored}
use Rattle.luks_kdf.proofs.derive.run_turns.Given as goal

-- under any key that both states hold: the last turn made, and the turns so far xored
abbrev pub invariant-loop-count : goal.invariant-loop-count
invariant-loop-count g l =
    (key : List ℕ)
    → HoldKey g.H.HashFn.holds g.H.HashFn.digest g.H.HashFn.BLOCK l.keyed.inner l.keyed.outer key
    → (l.turn ≡ turn (hmac g.H.HashFn.digest g.H.HashFn.BLOCK key) l.initial.turn (l.count - 1))
    × (l.block ≡ turns_xored (hmac g.H.HashFn.digest g.H.HashFn.BLOCK key) l.initial.turn (l.count - 1))
