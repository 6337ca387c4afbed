use Rattle.std.proofs.Common.{refl}
use Rattle.std.proofs.lemmas.Result.{err_from_is_err_and}
use Rattle.luks2_judging.proofs.judging.judge_luks2.Goals as goal

pub returns-in_err-taken-clause-refused : goal.returns-in_err-taken-clause-refused
returns-in_err-taken-clause-refused g c = λ tells is.
    let p = err_from_is_err_and c.from_residual.result c.from_residual.ensures.1 in
    rw (p.1, p.2) (c.in_err-taken.ensures.refused tells is)

pub returns-clause-judged : goal.returns-clause-judged
returns-clause-judged g c = record { is = refl; takes = c.in_ok-taken.ensures.takes }

pub returns-clause-unrefused : goal.returns-clause-unrefused
returns-clause-unrefused g c = λ tells is. c.in_ok-taken.ensures.unrefused tells is
