use Rattle.std.proofs.Common.{◌∷◌, [], codes, refl}
use Rattle.serde_json.specs.View.{view}
use Rattle.luks_rules.specs.declared.table.Outer.TheVariants as outer
use Rattle.luks_rules.specs.declared.table.Member.TheVariants as name
use Rattle.luks_rules.specs.Table.{keyslot_rows}
use Rattle.luks_rules.specs.Faults.{type_at}
use Rattle.luks_rules.specs.Reading.{whole, text}
use Rattle.luks_meta.proofs.RowsRead.{lost, at_row, unlisted}
use Rattle.luks_meta.proofs.KeyslotObjects.{area_home}
use Rattle.luks_meta.proofs.keyslots.read_area.Goals as goal

pub returns-then-not-has_type-clause-there : goal.returns-then-not-has_type-clause-there
returns-then-not-has_type-clause-there c = λ read.
    absurd (unlisted (type_at (view c.args.object.now) outer.Area) (codes "raw" ∷ []) (c.if-not-has_type.ensures, tt) (at_row keyslot_rows (view c.args.object.now) outer.Area name.Kind _ read refl (area_home (view c.args.object.now) read) refl))

pub returns-in_err-offset-clause-there : goal.returns-in_err-offset-clause-there
returns-in_err-offset-clause-there c = λ read. absurd (lost whole _ c.in_err-offset.ensures (at_row keyslot_rows (view c.args.object.now) outer.Area name.Offset _ read refl (area_home (view c.args.object.now) read) refl))

pub returns-in_err-size-clause-there : goal.returns-in_err-size-clause-there
returns-in_err-size-clause-there c = λ read. absurd (lost whole _ c.in_err-size.ensures (at_row keyslot_rows (view c.args.object.now) outer.Area name.Size _ read refl (area_home (view c.args.object.now) read) refl))

pub returns-in_err-encryption-clause-there : goal.returns-in_err-encryption-clause-there
returns-in_err-encryption-clause-there c = λ read. absurd (lost text _ c.in_err-encryption.ensures (at_row keyslot_rows (view c.args.object.now) outer.Area name.Encryption _ read refl (area_home (view c.args.object.now) read) refl))

pub returns-in_err-key_size-clause-there : goal.returns-in_err-key_size-clause-there
returns-in_err-key_size-clause-there c = λ read. absurd (lost whole _ c.in_err-key_size.ensures (at_row keyslot_rows (view c.args.object.now) outer.Area name.KeySize _ read refl (area_home (view c.args.object.now) read) refl))
