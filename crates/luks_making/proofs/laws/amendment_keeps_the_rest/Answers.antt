use Rattle.luks_making.proofs.AmendFacts.{held_prior, held_without_token, priority_set, token_added, token_lost}
use Rattle.luks_making.proofs.laws.amendment_keeps_the_rest.Goals as goal

pub returns-clause-held_prior : goal.returns-clause-held_prior
returns-clause-held_prior c = held_prior

pub returns-clause-held_without : goal.returns-clause-held_without
returns-clause-held_without c = held_without_token

pub returns-clause-prior : goal.returns-clause-prior
returns-clause-prior c = priority_set

pub returns-clause-added : goal.returns-clause-added
returns-clause-added c = token_added

pub returns-clause-lost : goal.returns-clause-lost
returns-clause-lost c = token_lost
