use Rattle.std.proofs.Common.{List, ℕ}
use Rattle.luks1_header.specs.Header1.{IsLuks1}
use Rattle.luks_keeping.specs.Laid.{HoldsBelow}
use Rattle.luks_keeping.proofs.size.areas_end.Given as goal

-- the areas before this one end there
abbrev pub invariant-loop-n : goal.invariant-loop-n
invariant-loop-n l = (h : List ℕ) → IsLuks1 h l.header → HoldsBelow h l.n l.end
