use Rattle.std.proofs.Common.{ℕ, ◌<◌, ◌≤◌}
use Rattle.luks_fragments.specs.Fragments.{HasFragmentAt}
use Rattle.luks_fragments.proofs.fragment.next_fragment.Given as goal

-- none begins before this place
abbrev pub invariant-loop-start : goal.invariant-loop-start
invariant-loop-start l = (p : ℕ) → l.from ≤ p → p < l.start → HasFragmentAt l.area p → ⊥
