use Rattle.std.proofs.Common.{◌∷◌, [], codes, refl, sym}
use Rattle.serde_json.specs.View.{view}
use Rattle.luks_rules.specs.declared.table.Outer.TheVariants as outer
use Rattle.luks_rules.specs.declared.table.Member.TheVariants as name
use Rattle.luks_rules.specs.Table.{keyslot_rows}
use Rattle.luks_rules.specs.Faults.{type_at}
use Rattle.luks_rules.specs.Reading.{whole, text}
use Rattle.luks_meta.proofs.RowsRead.{lost, at_row, unlisted}
use Rattle.luks_meta.proofs.KeyslotObjects.{kdf_home}
use Rattle.luks_meta.proofs.keyslots.read_cost.Goals as goal

pub returns-then-not-has_type-clause-there : goal.returns-then-not-has_type-clause-there
returns-then-not-has_type-clause-there c = λ read.
    absurd (unlisted (type_at (view c.args.object.now) outer.Kdf) (codes "pbkdf2" ∷ codes "argon2i" ∷ codes "argon2id" ∷ [])
    (c.if-not-has_type.ensures, (c.if-has_type.ensures, (c.if-has_type-2.ensures, tt))) (at_row keyslot_rows (view c.args.object.now) outer.Kdf name.Kind _ read refl (kdf_home (view c.args.object.now) read) refl))

pub returns-in_err-hash-clause-there : goal.returns-in_err-hash-clause-there
returns-in_err-hash-clause-there c = λ read.
    absurd (lost text _ c.in_err-hash.ensures (at_row keyslot_rows (view c.args.object.now) outer.Kdf name.Hash _ read refl (kdf_home (view c.args.object.now) read) (sym c.if-not-has_type.ensures)))

pub returns-in_err-iterations-clause-there : goal.returns-in_err-iterations-clause-there
returns-in_err-iterations-clause-there c = λ read.
    absurd (lost whole _ c.in_err-iterations.ensures (at_row keyslot_rows (view c.args.object.now) outer.Kdf name.Iterations _ read refl (kdf_home (view c.args.object.now) read) (sym c.if-not-has_type.ensures)))
