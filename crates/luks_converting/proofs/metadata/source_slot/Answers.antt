use Rattle.luks_converting.proofs.MemberFacts.{entry_members}
use Rattle.luks_converting.proofs.metadata.source_slot.Goals as goal

pub returns : goal.returns
returns c = λ e is. entry_members e c.args.slot.now is
