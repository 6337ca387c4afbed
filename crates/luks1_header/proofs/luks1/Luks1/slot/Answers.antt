use Rattle.std.proofs.Common.{refl}
use Rattle.luks1_header.proofs.Luks1FaultFacts.{entry_accepted}
use Rattle.luks1_header.specs.declared.fault.HeadFault.TheVariants as fault
use Rattle.luks1_header.proofs.luks1.Luks1.slot.Goals as goal

pub slot_fields-requires-clause-stated : goal.slot_fields-requires-clause-stated
slot_fields-requires-clause-stated c = λ none. c.in_ok-slot.ensures.ok (fault.SlotState c.args.n) (refl, none)

pub returns-clause-found : goal.returns-clause-found
returns-clause-found c = entry_accepted c.args.n _ _ c.in_ok-slot.ensures.ok c.slot_fields.ensures
