use Rattle.luks2_searching.specs.Mixed.{AreDiffering}
use Rattle.luks2_searching.proofs.mixed.differing.Given as goal

-- the places of all bytes before this one that differ
abbrev pub invariant-loop-place : goal.invariant-loop-place
invariant-loop-place l = AreDiffering l.first l.second l.place l.places.items
