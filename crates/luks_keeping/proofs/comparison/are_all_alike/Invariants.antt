use Rattle.std.proofs.Common.{◌≡◌, take, true}
use Rattle.luks_keeping.specs.ComparisonTexts.{are_alike}
use Rattle.luks_keeping.proofs.comparison.are_all_alike.Given as goal

-- those before this one are
abbrev pub invariant-loop-keeping : goal.invariant-loop-keeping
invariant-loop-keeping l = are_alike (take l.keeping-index l.keyslots) ≡ true
