use Rattle.luks1_header.proofs.Luks1FaultFacts.{accepted, none_in_common, sound, texts_accepted}
use Rattle.luks1_header.specs.declared.fault.HeadFault.TheVariants as fault
use Rattle.luks1_header.proofs.luks1.Luks1.read.Goals as goal

pub common_fields-requires-clause-texts : goal.common_fields-requires-clause-texts
common_fields-requires-clause-texts c = texts_accepted _ (none_in_common _ c.in_ok-all.ensures.ok)

pub slots_of-requires-clause-stated : goal.slots_of-requires-clause-stated
slots_of-requires-clause-stated c = λ n lt none. c.in_ok-all.ensures.ok (fault.SlotState n) (lt, none)

pub returns-clause-found : goal.returns-clause-found
returns-clause-found c =
    accepted _ _ c.in_ok-all.ensures.ok c.common_fields.ensures c.slots_of.ensures.length c.slots_of.ensures.each

pub returns-in_err-all-clause-only : goal.returns-in_err-all-clause-only
returns-in_err-all-clause-only c = λ d good. absurd (sound _ d good _ c.in_err-all.ensures.err.0)
