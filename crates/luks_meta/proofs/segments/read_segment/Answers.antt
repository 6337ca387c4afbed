use Rattle.std.proofs.Common.{refl}
use Rattle.serde_json.specs.View.{view}
use Rattle.luks_rules.specs.declared.table.Member.TheVariants as name
use Rattle.luks_rules.specs.Table.{segment_rows}
use Rattle.luks_rules.specs.Reading.{whole}
use Rattle.luks_meta.proofs.RowsRead.{lost, absent_one, at_top}
use Rattle.luks_meta.proofs.segments.read_segment.Goals as goal

pub returns-in_err-offset-clause-there : goal.returns-in_err-offset-clause-there
returns-in_err-offset-clause-there c = λ read. absurd (lost whole _ c.in_err-offset.ensures (at_top segment_rows (view c.args.object.now) name.Offset _ read refl refl refl))

pub returns-in_err-size-clause-there : goal.returns-in_err-size-clause-there
returns-in_err-size-clause-there c = λ read. absurd (absent_one _ c.in_err-size.ensures (at_top segment_rows (view c.args.object.now) name.Size _ read refl refl refl))
