use Rattle.std.proofs.Common.{arith}
use Rattle.luks1_edits.proofs.AcceptedFacts.{unaccepted_first}
use Rattle.luks1_edits.proofs.OpenerFacts.{slots_in}
use Rattle.luks1_edits.proofs.RowFacts.{misnamed_refused}
use Rattle.luks1_edits.proofs.accepted.judge_without_key.Goals as goal

pub returns-in-Err-clause-refused : goal.returns-in-Err-clause-refused
returns-in-Err-clause-refused c = λ v random is size. unaccepted_first v c.args.payload c.args.edit.now random c.in-Err.fault (c.in-Err.ensures.refused v is size)

pub returns-in-Err-clause-early : goal.returns-in-Err-clause-early
returns-in-Err-clause-early c = let row = c.in-Err.ensures.row in omega (arith, row)

pub returns-in-Err-judge_named-clause-refused : goal.returns-in-Err-judge_named-clause-refused
returns-in-Err-judge_named-clause-refused c = λ v random is size.
    let a = c.in-Ok.header in
    let header = c.in-Ok.ensures.header v is size in
    misnamed_refused v c.args.payload c.args.edit.now random header.faultless c.in-Err-judge_named.fault
    (c.in-Err-judge_named.ensures.judged v (slots_in a.bytes.now c.args.payload v a.fields.slots header c.in-Ok.ensures.accepted.fields.slots))
