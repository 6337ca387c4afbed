use Rattle.std.proofs.Common.{subst, ◌∙◌}
use Rattle.luks_reading.specs.Checked.{IsLuks1Volume}
use Rattle.luks_reading.proofs.CheckFacts.{luks1_first}
use Rattle.luks1_edits.proofs.AcceptedFacts.{header_of}
use Rattle.luks1_edits.proofs.accepted.accepted_header.Goals as goal

pub returns-in-Ok-clause-header : goal.returns-in-Ok-clause-header
returns-in-Ok-clause-header c = λ v is size.
    header_of c.args.bytes.now c.args.payload c.args.total v is.0 is.1 size
    (subst (λ h. IsLuks1Volume h c.args.payload c.args.total) c.as_slice.ensures c.in-Ok.ensures.accepted)

pub returns-in-Err-clause-refused : goal.returns-in-Err-clause-refused
returns-in-Err-clause-refused c = λ v is size.
    luks1_first v c.args.payload c.as_slice.result.now c.args.total c.in-Err.fault is.0 (c.as_slice.ensures ∙ is.1) size c.in-Err.ensures.refused
