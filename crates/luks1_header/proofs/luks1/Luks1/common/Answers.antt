use Rattle.luks1_header.proofs.Luks1FaultFacts.{common_accepted, texts_accepted}
use Rattle.luks1_header.proofs.luks1.Luks1.common.Goals as goal

pub common_fields-requires-clause-texts : goal.common_fields-requires-clause-texts
common_fields-requires-clause-texts c = texts_accepted _ c.in_ok-common.ensures.ok

pub returns-clause-found : goal.returns-clause-found
returns-clause-found c = common_accepted _ _ c.in_ok-common.ensures.ok c.common_fields.ensures
