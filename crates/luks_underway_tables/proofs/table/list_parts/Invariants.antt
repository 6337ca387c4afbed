use Rattle.std.proofs.Common.{◌≡◌, ◌≤◌, ◌*◌}
use Rattle.std.specs.Fmt.{HasWritten, IsPlainFormatter}
use Rattle.luks_wider.specs.Underways.{content}
use Rattle.luks_underway_tables.specs.Table.{parts_below, place_below}
use Rattle.luks_underway_tables.proofs.table.list_parts.Given as goal

abbrev pub invariant-loop-n : goal.invariant-loop-n
invariant-loop-n g l = record {
  place : l.place ≡ place_below l.end (content l.meta) l.n;
  few : l.place ≤ 36028797018963967 * l.n;
  written : IsPlainFormatter l.fn.f → HasWritten g.W.Write.write_str_gives l.fn.f (parts_below l.end (content l.meta) l.n) l.f;
}
