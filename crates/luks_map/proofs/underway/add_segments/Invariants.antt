use Rattle.std.proofs.Common.{◌≡◌, ◌≤◌, ◌+◌, ◌++◌, length}
use Rattle.luks_rules.specs.declared.table.Section.TheVariants.{Segments}
use Rattle.luks_wider.specs.Underways.{content}
use Rattle.luks_map.specs.UnderwayRows.{object_row, rows_below, segment_row}
use Rattle.luks_map.proofs.underway.add_segments.Given as goal

abbrev pub invariant-loop-n : goal.invariant-loop-n
invariant-loop-n l = record {
  rows : l.rows.items ≡ l.fn.rows.items ++ rows_below (object_row (segment_row l.total) (content l.meta) Segments) l.n;
  count : length l.rows.items ≤ 36 + l.n;
}
