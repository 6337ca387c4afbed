use Rattle.std.proofs.Common.{refl}
use Rattle.serde_json.specs.View.{view}
use Rattle.luks_rules.specs.declared.table.Outer.TheVariants as outer
use Rattle.luks_rules.specs.declared.table.Member.TheVariants as name
use Rattle.luks_rules.specs.Table.{keyslot_rows}
use Rattle.luks_rules.specs.Reading.{bytes}
use Rattle.luks_meta.proofs.RowsRead.{lost, at_row}
use Rattle.luks_meta.proofs.KeyslotObjects.{kdf_home}
use Rattle.luks_meta.proofs.keyslots.read_derivation.Goals as goal

pub returns-in_err-salt-clause-there : goal.returns-in_err-salt-clause-there
returns-in_err-salt-clause-there c = λ read. absurd (lost bytes _ c.in_err-salt.ensures (at_row keyslot_rows (view c.args.object.now) outer.Kdf name.Salt _ read refl (kdf_home (view c.args.object.now) read) refl))
