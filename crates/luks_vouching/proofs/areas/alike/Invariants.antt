use Rattle.std.proofs.Common.{◌≡◌, ◌*◌, take}
use Rattle.luks_vouching.proofs.areas.alike.Given as goal

-- the sectors before `k` are alike
abbrev pub invariant-loop-k : goal.invariant-loop-k
invariant-loop-k l = take (512 * l.k) l.first ≡ take (512 * l.k) l.second
