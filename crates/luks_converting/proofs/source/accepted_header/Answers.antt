use Rattle.std.proofs.Common.{subst, ◌∙◌}
use Rattle.luks_reading.specs.Checked.{IsLuks1Volume}
use Rattle.luks_converting.proofs.AcceptedFacts.{areas_inside, first_fault, header_of}
use Rattle.luks_converting.proofs.source.accepted_header.Goals as goal

pub returns-in-Ok-clause-header : goal.returns-in-Ok-clause-header
returns-in-Ok-clause-header c = λ v is size.
    header_of c.args.bytes.now c.args.payload c.args.total v is.0 is.1 size
    (subst (λ h. IsLuks1Volume h c.args.payload c.args.total) c.as_slice.ensures c.in-Ok.ensures.accepted)

pub returns-in-Ok-clause-inside : goal.returns-in-Ok-clause-inside
returns-in-Ok-clause-inside c =
    areas_inside c.args.bytes.now c.args.payload c.args.total (subst (λ h. IsLuks1Volume h c.args.payload c.args.total) c.as_slice.ensures c.in-Ok.ensures.accepted)

pub returns-in-Err-clause-refused : goal.returns-in-Err-clause-refused
returns-in-Err-clause-refused c = λ v is size.
    first_fault c.as_slice.result.now c.args.payload c.args.total v is.0 (c.as_slice.ensures ∙ is.1) size c.in-Err.fault c.in-Err.ensures.refused
