use Rattle.luks_json.proofs.AreaKinds.{kind_of, not_bad}
use Rattle.luks_json.proofs.laws.one_kind_of_area.Goals as goal

pub returns-clause-some : goal.returns-clause-some
returns-clause-some c = kind_of

pub returns-clause-good : goal.returns-clause-good
returns-clause-good c = not_bad
