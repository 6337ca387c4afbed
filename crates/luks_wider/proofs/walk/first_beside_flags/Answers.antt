use Rattle.std.proofs.Common.{map, sym}
use Rattle.serde_json.specs.View.{view}
use Rattle.luks_rules.specs.declared.table.Section.TheVariants.{Segments}
use Rattle.luks_wider.specs.Places.{wide_row_fault}
use Rattle.luks_wider.specs.declared.rows.NewRow.TheVariants.{Flags}
use Rattle.luks_wider.specs.declared.rows.WideRow.TheVariants.{Known, New}
use Rattle.luks_wider.proofs.Finding.{found-later, found-second}
use Rattle.luks_wider.proofs.walk.first_beside_flags.Goals as goal

pub returns-in-Some : goal.returns-in-Some
returns-in-Some c =
    found-second (wide_row_fault c.args.test Segments (view c.args.value.now) (view c.args.segment.now)) (Known c.args.first.now) (New Flags) (map Known c.args.rest.now)
    c.in-Some.row (sym c.if-wide_row_fault.ensures) c.in-Some.ensures

pub returns-in-None : goal.returns-in-None
returns-in-None c =
    found-later (wide_row_fault c.args.test Segments (view c.args.value.now) (view c.args.segment.now)) (Known c.args.first.now) (New Flags) (map Known c.args.rest.now)
    c.first_known.result (sym c.if-wide_row_fault.ensures) c.in-None.ensures c.first_known.ensures
