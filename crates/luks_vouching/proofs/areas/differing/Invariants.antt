use Rattle.std.proofs.Common.{◌≡◌, take, not}
use Rattle.std.specs.List.{count_by, range_with_len}
use Rattle.std.specs.Str.{bytes_eq}
use Rattle.luks_vouching.specs.Composed.{sector, sector_count}
use Rattle.luks_vouching.proofs.areas.differing.Given as goal

-- those before the sector `k` are counted
abbrev pub invariant-loop-k : goal.invariant-loop-k
invariant-loop-k l = l.count ≡ count_by (λ k. not (bytes_eq (sector l.first k) (sector l.second k))) (take l.k (range_with_len 0 (sector_count l.first)))
