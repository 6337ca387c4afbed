use Rattle.std.proofs.Common.{◌≡◌, drop, map}
use Rattle.std.specs.Prelude.{find}
use Rattle.serde_json.specs.View.{view}
use Rattle.luks_wider.specs.Places.{wide_row_fault}
use Rattle.luks_wider.specs.declared.rows.WideRow.TheVariants.{New}
use Rattle.luks_wider.proofs.walk.first_new.Given as goal

abbrev pub invariant-loop-row : goal.invariant-loop-row
invariant-loop-row l = find (wide_row_fault l.test l.section (view l.value) (view l.object)) (map New l.rows)
    ≡ find (wide_row_fault l.test l.section (view l.value) (view l.object)) (map New (drop l.row-index l.rows))
