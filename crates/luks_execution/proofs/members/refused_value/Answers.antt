use Rattle.std.proofs.Common.{sym, subst, ◌∙◌}
use Rattle.luks_execution.specs.Parted.{HasParts}
use Rattle.luks_execution.proofs.RefusalFacts.{refusal_parts}
use Rattle.luks_execution.proofs.members.refused_value.Goals as goal

pub parts_of-requires : goal.parts_of-requires
parts_of-requires c = subst HasParts (sym (c.as_str.ensures.value ∙ c.in_ok-printed.ensures.ok)) (refusal_parts c.args.refusal.now)
