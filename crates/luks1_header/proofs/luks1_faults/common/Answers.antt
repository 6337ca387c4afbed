use Rattle.std.proofs.Common.{refl}
use Rattle.luks1_header.proofs.Luks1FaultFacts.{text_held}
use Rattle.luks1_header.specs.declared.fault.HeadFault.TheVariants as fault
use Rattle.luks1_header.specs.declared.fault.TextField.TheVariants as field
use Rattle.luks1_header.proofs.luks1_faults.common.Goals as goal

pub uuid-requires-clause-text : goal.uuid-requires-clause-text
uuid-requires-clause-text c = text_held c.args.bytes.now 168 40 (λ bad. c.in_ok-texts.ensures (fault.Text field.Uuid) bad refl)
