use Rattle.luks_vouching.proofs.LawFacts.{none_vouched, vouched_once}
use Rattle.luks_vouching.proofs.laws.one_vouched.Goals as goal

pub returns-clause-one : goal.returns-clause-one
returns-clause-one c = vouched_once

pub returns-clause-none : goal.returns-clause-none
returns-clause-none c = none_vouched
