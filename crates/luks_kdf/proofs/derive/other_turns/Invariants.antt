use Rattle.std.proofs.Common.{◌≡◌, ◌-◌, ◌<◌, ◌≤◌, List, ℕ}
use Rattle.luks_kdf.specs.Derivation.{HoldKey, hmac, turns_xored}
use Rattle.luks_kdf.specs.Splitter.{block_at}
use Rattle.luks_kdf.proofs.derive.other_turns.Given as goal

-- the blocks before and those to come are as they were, and under any key that both states hold those
-- so far are turned
abbrev pub invariant-loop-i : goal.invariant-loop-i
invariant-loop-i g l =
    ((k : ℕ) → k < l.done → block_at g.H.HashFn.LEN l.blocks k ≡ block_at g.H.HashFn.LEN l.initial.blocks k)
    × ((k : ℕ) → l.i ≤ k → block_at g.H.HashFn.LEN l.blocks k ≡ block_at g.H.HashFn.LEN l.initial.blocks k)
    × ((key : List ℕ) (k : ℕ) → l.done ≤ k → k < l.i
    → HoldKey g.H.HashFn.holds g.H.HashFn.digest g.H.HashFn.BLOCK l.keyed.inner l.keyed.outer key
    → block_at g.H.HashFn.LEN l.blocks k
    ≡ turns_xored (hmac g.H.HashFn.digest g.H.HashFn.BLOCK key) (block_at g.H.HashFn.LEN l.initial.blocks k) (l.iterations - 1))
