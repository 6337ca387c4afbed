use Rattle.std.proofs.Common.{◌≡◌, length}
use Rattle.luks2_searching.specs.Mixed.{mixed, AreInside}
use Rattle.luks2_searching.proofs.mixed.put_numbered.Given as goal

-- with what is left to be put there it is what is wanted
abbrev pub invariant-loop-left : goal.invariant-loop-left
invariant-loop-left l = record {
  long : length l.json ≡ length l.other;
  same : mixed l.other l.left l.number l.json ≡ mixed l.other l.places l.n l.initial.json;
  inside : AreInside (length l.other) l.left;
}

abbrev pub decreases-loop-left : goal.decreases-loop-left
decreases-loop-left l = length l.left
