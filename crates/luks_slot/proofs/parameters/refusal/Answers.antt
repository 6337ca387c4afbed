use Rattle.std.proofs.Common.{◌∙◌}
use Rattle.luks_slot.proofs.RefusalFacts.{refusal_at_none}
use Rattle.luks_slot.proofs.parameters.refusal.Goals as goal

pub returns : goal.returns
returns c = c.refusal_within.ensures ∙ refusal_at_none c.args.plan.now
