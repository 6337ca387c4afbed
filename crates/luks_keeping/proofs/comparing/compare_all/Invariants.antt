use Rattle.luks_keeping.specs.Salts.{HoldsKeeping}
use Rattle.luks_keeping.proofs.comparing.compare_all.Given as goal

-- how the keyslots before this one stand is listed
abbrev pub invariant-loop-n : goal.invariant-loop-n
invariant-loop-n l = HoldsKeeping l.backup l.volume l.n l.states
