use Rattle.std.proofs.Common.{refl}
use Rattle.serde_json.specs.View.{view}
use Rattle.luks_rules.specs.declared.table.Outer.TheVariants as outer
use Rattle.luks_rules.specs.declared.table.Member.TheVariants as name
use Rattle.luks_rules.specs.Table.{keyslot_rows}
use Rattle.luks_rules.specs.Reading.{whole}
use Rattle.luks_meta.proofs.RowsRead.{lost, at_row}
use Rattle.luks_meta.proofs.KeyslotObjects.{kdf_home}
use Rattle.luks_meta.proofs.keyslots.read_argon2.Goals as goal

pub returns-in_err-time-clause-there : goal.returns-in_err-time-clause-there
returns-in_err-time-clause-there c = λ read suited. absurd (lost whole _ c.in_err-time.ensures (at_row keyslot_rows (view c.args.object.now) outer.Kdf name.Time _ read refl (kdf_home (view c.args.object.now) read) suited))

pub returns-in_err-memory-clause-there : goal.returns-in_err-memory-clause-there
returns-in_err-memory-clause-there c = λ read suited. absurd (lost whole _ c.in_err-memory.ensures (at_row keyslot_rows (view c.args.object.now) outer.Kdf name.Memory _ read refl (kdf_home (view c.args.object.now) read) suited))

pub returns-in_err-cpus-clause-there : goal.returns-in_err-cpus-clause-there
returns-in_err-cpus-clause-there c = λ read suited. absurd (lost whole _ c.in_err-cpus.ensures (at_row keyslot_rows (view c.args.object.now) outer.Kdf name.Cpus _ read refl (kdf_home (view c.args.object.now) read) suited))
