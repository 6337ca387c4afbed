use Rattle.luks1_mending.specs.Judging.{set_of, AreKeptSoFar}
use Rattle.luks1_mending.proofs.kept.keep_rank.Given as goal

-- the keyslots of this rank before this one are judged, too
abbrev pub invariant-loop-n : goal.invariant-loop-n
invariant-loop-n l = AreKeptSoFar l.header l.key_bytes l.total l.rank l.n (set_of l.kept)
