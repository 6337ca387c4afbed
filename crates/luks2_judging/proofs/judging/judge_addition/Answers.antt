use Rattle.std.proofs.Common.{inr}
use Rattle.luks2_judging.proofs.judging.judge_addition.Goals as goal

pub returns-in-Err-judge_sealing-clause-refused : goal.returns-in-Err-judge_sealing-clause-refused
returns-in-Err-judge_sealing-clause-refused c = λ payload lists.
    inr (record { number = c.in-Ok.made; is = c.in-Ok.ensures }, c.in-Err-judge_sealing.ensures.refused payload lists)
