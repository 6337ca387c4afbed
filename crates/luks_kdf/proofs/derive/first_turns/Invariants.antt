use Rattle.std.proofs.Common.{◌≡◌, ◌+◌, ◌<◌, List, ℕ}
use Rattle.luks_kdf.specs.Derivation.{HoldKey, first_turn, hmac}
use Rattle.luks_kdf.specs.Splitter.{block_at}
use Rattle.luks_kdf.proofs.derive.first_turns.Given as goal

-- under any key that both states hold: the first turns so far
abbrev pub invariant-loop-i : goal.invariant-loop-i
invariant-loop-i g l =
    (key : List ℕ) (k : ℕ) → k < l.i
    → HoldKey g.H.HashFn.holds g.H.HashFn.digest g.H.HashFn.BLOCK l.keyed.inner l.keyed.outer key
    → block_at g.H.HashFn.LEN l.blocks k ≡ first_turn (hmac g.H.HashFn.digest g.H.HashFn.BLOCK key) l.salt (k + 1)
