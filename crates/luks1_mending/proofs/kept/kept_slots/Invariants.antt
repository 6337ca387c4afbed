use Rattle.luks1_mending.specs.Judging.{set_of, AreKeptSoFar}
use Rattle.luks1_mending.proofs.kept.kept_slots.Given as goal

-- the ranks before this one are judged
abbrev pub invariant-loop-rank : goal.invariant-loop-rank
invariant-loop-rank l = AreKeptSoFar l.header l.key_bytes l.total l.rank 0 (set_of l.kept)
