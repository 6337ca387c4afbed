use Rattle.std.proofs.Common.{◌≡◌, ◌+◌, ◌++◌, length, take, map}
use Rattle.luks_map.specs.Luks2Rows.{area_row}
use Rattle.luks_map.proofs.luks2.add_areas.Given as goal

abbrev pub invariant-loop-entry : goal.invariant-loop-entry
invariant-loop-entry l = (l.rows.items ≡ l.fn.rows.items ++ map area_row (take l.entry-index l.areas)) × (length l.rows.items ≡ length l.fn.rows.items + l.entry-index)
