use Rattle.std.proofs.Common.{ℕ, ◌<◌}
use Rattle.luks_meta.specs.Content.{content}
use Rattle.luks2_judging.specs.Keys.{IsMetHere}
use Rattle.luks2_judging.proofs.keys.first_met.Given as goal

-- none before this one is met
abbrev pub invariant-loop-number : goal.invariant-loop-number
invariant-loop-number l = (k : ℕ) → k < l.number → IsMetHere l.older l.assigned (content l.meta) l.key k → ⊥
