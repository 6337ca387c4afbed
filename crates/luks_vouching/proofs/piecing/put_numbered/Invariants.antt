use Rattle.std.proofs.Common.{◌≡◌, length}
use Rattle.luks_vouching.specs.Pieces.{numbered, AreInside}
use Rattle.luks_vouching.proofs.piecing.put_numbered.Given as goal

-- with what is left to be put there it is what is wanted
abbrev pub invariant-loop-left : goal.invariant-loop-left
invariant-loop-left l = record {
  same : numbered l.other l.left l.number l.json ≡ numbered l.other l.found l.n l.initial.json;
  inside : AreInside (length l.other) l.left;
}

abbrev pub decreases-loop-left : goal.decreases-loop-left
decreases-loop-left l = length l.left
