use Rattle.std.proofs.lemmas.Bool.{false≢true}
use Rattle.std.proofs.Common.{refl}
use Rattle.serde_json.specs.View.{view}
use Rattle.luks_rules.specs.declared.table.Member.TheVariants as name
use Rattle.luks_rules.specs.Table.{token_rows}
use Rattle.luks_rules.specs.Reading.{text}
use Rattle.luks_meta.proofs.RowsRead.{lost, at_top}
use Rattle.luks_meta.proofs.tokens.read_token.Goals as goal

pub returns-in_err-kind-clause-there : goal.returns-in_err-kind-clause-there
returns-in_err-kind-clause-there c = λ read keyslots. absurd (lost text _ c.in_err-kind.ensures (at_top token_rows (view c.args.object.now) name.Kind _ read refl refl refl))

pub returns-in_err-keyslots-clause-there : goal.returns-in_err-keyslots-clause-there
returns-in_err-keyslots-clause-there c = λ read keyslots. absurd (false≢true (c.in_err-keyslots.ensures.there keyslots))
