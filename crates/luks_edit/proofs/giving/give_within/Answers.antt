use Rattle.std.proofs.lemmas.Result.{IfErr-weaker}
use Rattle.luks_edit.proofs.SecretFacts.{uncounted_refusal}
use Rattle.luks_slot.proofs.DerivationFacts.{refusal_answered}
use Rattle.luks_edit.proofs.giving.give_within.Goals as goal

pub returns-in-Key-clause-fault : goal.returns-in-Key-clause-fault
returns-in-Key-clause-fault g c = IfErr-weaker c.own_key.result _ _ (λ f is. refusal_answered c.args.allowed c.args.plan.now f is) c.own_key.ensures.refused

pub returns-in-Key-clause-count : goal.returns-in-Key-clause-count
returns-in-Key-clause-count g c = uncounted_refusal c.args.allowed c.args.plan.now c.own_key.result (g.D.Device.failed c.args.device.now) c.own_key.ensures.refused
