use Rattle.luks1_header.specs.Header1.{entry}
use Rattle.luks_converting.proofs.MemberFacts.{slot_off, slot_on}
use Rattle.luks_converting.proofs.metadata.enabled_slot.Goals as goal

pub returns-in-Enabled : goal.returns-in-Enabled
returns-in-Enabled c = λ h n low is. slot_on h n c.args.slot.now low is c.in-Enabled.is _ (c.source_slot.ensures (entry h n) is)

pub returns-in-Disabled : goal.returns-in-Disabled
returns-in-Disabled c = λ h n low is. slot_off h n c.args.slot.now low is c.in-Disabled.is
