use Rattle.luks_keeping.specs.Salts.{HoldsSalts}
use Rattle.luks_keeping.proofs.salts.salts_of.Given as goal

-- the salts of the keyslots before this one are listed
abbrev pub invariant-loop-n : goal.invariant-loop-n
invariant-loop-n l = HoldsSalts l.header l.n l.salts
