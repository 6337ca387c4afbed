use Rattle.std.proofs.Common.{◌∷◌, [], codes, refl}
use Rattle.serde_json.specs.View.{view}
use Rattle.luks_rules.specs.declared.table.Outer.TheVariants as outer
use Rattle.luks_rules.specs.declared.table.Member.TheVariants as name
use Rattle.luks_rules.specs.Table.{keyslot_rows}
use Rattle.luks_rules.specs.Faults.{type_at}
use Rattle.luks_rules.specs.Reading.{whole}
use Rattle.luks_meta.proofs.RowsRead.{lost, absent_one, at_top, unlisted}
use Rattle.luks_meta.proofs.keyslots.read_keyslot.Goals as goal

pub returns-then-not-has_type-clause-there : goal.returns-then-not-has_type-clause-there
returns-then-not-has_type-clause-there c = λ read.
    absurd (unlisted (type_at (view c.args.object.now) outer.Top) (codes "luks2" ∷ []) (c.if-not-has_type.ensures, tt) (at_top keyslot_rows (view c.args.object.now) name.Kind _ read refl refl refl))

pub returns-in_err-key_size-clause-there : goal.returns-in_err-key_size-clause-there
returns-in_err-key_size-clause-there c = λ read. absurd (lost whole _ c.in_err-key_size.ensures (at_top keyslot_rows (view c.args.object.now) name.KeySize _ read refl refl refl))

pub returns-in_err-priority-clause-there : goal.returns-in_err-priority-clause-there
returns-in_err-priority-clause-there c = λ read. absurd (absent_one _ c.in_err-priority.ensures (at_top keyslot_rows (view c.args.object.now) name.Priority _ read refl refl refl))
