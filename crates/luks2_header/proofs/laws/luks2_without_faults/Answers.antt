use Rattle.luks1_header.specs.declared.fault.HeadFault.TheVariants as fault
use Rattle.luks2_header.proofs.ChoiceFacts.{selected_without, uuid_accepted, uuid_sound}
use Rattle.luks2_header.proofs.laws.luks2_without_faults.Goals as goal

pub returns-clause-selected : goal.returns-clause-selected
returns-clause-selected c = λ v. ((λ none. none fault.NoSoundCopy), selected_without v)

pub returns-clause-uuid : goal.returns-clause-uuid
returns-clause-uuid c = λ text. (uuid_accepted text, uuid_sound text)
