use Rattle.std.proofs.Common.{◌∙◌}
use Rattle.luks_slot.proofs.RefusalFacts.{refusal_at_none}
use Rattle.luks_slot.proofs.DerivationFacts.{answered_so}
use Rattle.luks_slot.proofs.opening.open.Goals as goal

pub returns-clause-refused : goal.returns-clause-refused
returns-clause-refused g c f is = c.open_within.ensures.refused f (refusal_at_none c.args.plan.now ∙ is)

pub returns-clause-fault : goal.returns-clause-fault
returns-clause-fault g c = answered_so c.args.plan.now c.open_within.result c.open_within.ensures.fault
