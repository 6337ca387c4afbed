use Rattle.std.proofs.Common.{◌∷◌, [], codes, refl, sym}
use Rattle.serde_json.specs.View.{view}
use Rattle.luks_rules.specs.declared.table.Member.TheVariants as name
use Rattle.luks_rules.specs.Table.{segment_rows}
use Rattle.luks_rules.specs.Reading.{whole, text}
use Rattle.luks_rules.specs.Faults.{type_at}
use Rattle.luks_rules.specs.declared.table.Outer.TheVariants as outer
use Rattle.luks_meta.proofs.RowsRead.{lost, at_row, at_top, unlisted}
use Rattle.luks_meta.proofs.segments.read_kind.Goals as goal

pub returns-then-not-has_type-clause-there : goal.returns-then-not-has_type-clause-there
returns-then-not-has_type-clause-there c = λ read.
    absurd (unlisted (type_at (view c.args.object.now) outer.Top) (codes "crypt" ∷ codes "linear" ∷ []) (c.if-not-has_type.ensures, (c.if-has_type.ensures, tt)) (at_top segment_rows (view c.args.object.now) name.Kind _ read refl refl refl))

pub returns-in_err-iv_tweak-clause-there : goal.returns-in_err-iv_tweak-clause-there
returns-in_err-iv_tweak-clause-there c = λ read.
    absurd (lost whole _ c.in_err-iv_tweak.ensures (at_row segment_rows (view c.args.object.now) outer.Top name.IvTweak _ read refl read.is_object (sym c.if-not-has_type.ensures)))

pub returns-in_err-cipher-clause-there : goal.returns-in_err-cipher-clause-there
returns-in_err-cipher-clause-there c = λ read.
    absurd (lost text _ c.in_err-cipher.ensures (at_row segment_rows (view c.args.object.now) outer.Top name.Encryption _ read refl read.is_object (sym c.if-not-has_type.ensures)))

pub returns-in_err-sector_size-clause-there : goal.returns-in_err-sector_size-clause-there
returns-in_err-sector_size-clause-there c = λ read.
    absurd (lost whole _ c.in_err-sector_size.ensures (at_row segment_rows (view c.args.object.now) outer.Top name.SectorSize _ read refl read.is_object (sym c.if-not-has_type.ensures)))
