use Rattle.luks1_edits.proofs.KeyslotChoice.{NoneInUse}
use Rattle.luks1_edits.proofs.keyslots.is_last.Given as goal

abbrev pub invariant-loop-m : goal.invariant-loop-m
invariant-loop-m l = NoneInUse l.header.slots l.n l.m
