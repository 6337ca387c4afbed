use Rattle.std.proofs.Common.{arith}
use Rattle.luks1_header.specs.declared.fault.TextField.TheVariants as field
use Rattle.luks1_header.proofs.luks1.common_fields.Goals as goal

pub text_at-requires : goal.text_at-requires
text_at-requires c = (omega arith, (omega arith, c.requires.texts field.CipherName))

pub text_at-requires-2 : goal.text_at-requires-2
text_at-requires-2 c = (omega arith, (omega arith, c.requires.texts field.CipherMode))

pub text_at-requires-3 : goal.text_at-requires-3
text_at-requires-3 c = (omega arith, (omega arith, c.requires.texts field.HashSpec))

pub text_at-requires-4 : goal.text_at-requires-4
text_at-requires-4 c = (omega arith, (omega arith, c.requires.texts field.Uuid))
