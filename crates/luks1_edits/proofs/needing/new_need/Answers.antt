use Rattle.luks1_edits.proofs.needing.new_need.Goals as goal

pub returns-in-Err-clause-need : goal.returns-in-Err-clause-need
returns-in-Err-clause-need c = λ v slots key_bytes. c.in-Err.ensures.new v slots
