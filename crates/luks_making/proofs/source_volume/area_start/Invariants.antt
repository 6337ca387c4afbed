use Rattle.std.proofs.Common.{◌≡◌, ◌≤◌, ◌^◌, ◌+◌, ◌*◌}
use Rattle.luks_making.specs.Converted.{area_start, source_members}
use Rattle.luks_making.proofs.source_volume.area_start.Given as goal

-- the end of the areas so far
abbrev pub invariant-loop-n : goal.invariant-loop-n
invariant-loop-n l = record {
  last : area_start (source_members l.volume) l.n ≡ l.start;
  short : l.start ≤ 32768 + l.n * 2 ^ 41;
}
