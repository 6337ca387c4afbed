use Rattle.std.proofs.Common.{refl}
use Rattle.luks_json.proofs.parsing.read_json.Goals as goal

pub returns-in_default-clause-fault : goal.returns-in_default-clause-fault
returns-in_default-clause-fault c = c.in_default.ensures.none refl
