use Rattle.luks1_edits.proofs.KeyslotChoice.{AllInUse}
use Rattle.luks1_edits.proofs.keyslots.least_free.Given as goal

abbrev pub invariant-loop-n : goal.invariant-loop-n
invariant-loop-n l = AllInUse l.header.slots l.n
