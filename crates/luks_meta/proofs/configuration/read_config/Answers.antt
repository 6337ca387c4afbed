use Rattle.std.proofs.Common.{refl}
use Rattle.serde_json.specs.View.{view}
use Rattle.luks_rules.specs.declared.table.Member.TheVariants as name
use Rattle.luks_rules.specs.Table.{config_rows}
use Rattle.luks_rules.specs.Reading.{whole}
use Rattle.luks_meta.proofs.RowsRead.{lost, at_top}
use Rattle.luks_meta.proofs.configuration.read_config.Goals as goal

pub returns-in_err-json_size-clause-there : goal.returns-in_err-json_size-clause-there
returns-in_err-json_size-clause-there c = λ read. absurd (lost whole _ c.in_err-json_size.ensures (at_top config_rows (view c.args.object.now) name.JsonSize _ read refl refl refl))

pub returns-in_err-keyslots_size-clause-there : goal.returns-in_err-keyslots_size-clause-there
returns-in_err-keyslots_size-clause-there c = λ read. absurd (lost whole _ c.in_err-keyslots_size.ensures (at_top config_rows (view c.args.object.now) name.KeyslotsSize _ read refl refl refl))
