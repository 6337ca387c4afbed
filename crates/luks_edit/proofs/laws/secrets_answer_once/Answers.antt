use Rattle.luks_area.specs.Ranges.{part}
use Rattle.luks_edit.proofs.SecretFacts.{given_meets, one_answer_to, own_is, passphrase_answers}
use Rattle.luks_edit.proofs.laws.secrets_answer_once.Goals as goal

pub returns-clause-passphrase : goal.returns-clause-passphrase
returns-clause-passphrase c = passphrase_answers

pub returns-clause-one : goal.returns-clause-one
returns-clause-one c = one_answer_to

pub returns-clause-meets : goal.returns-clause-meets
returns-clause-meets c = λ kind allowed v n p key x. given_meets kind x.plan (part v x.plan.area.start x.plan.area.len) p key x.key

pub returns-clause-own : goal.returns-clause-own
returns-clause-own c = own_is
