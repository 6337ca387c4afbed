-- How an explanation is written: the fault's name, and a line or more for each of the four questions.
use Rattle.std.specs.Prelude.{ℕ, List, ◌++◌, codes}
use Rattle.luks_explain.specs.declared.explanation.Explanation.{Explanation}

abbrev pub explanation_text : Explanation → List ℕ
explanation_text e =
    e.name.now
    ++ codes "\nmeans  " ++ e.means.now
    ++ codes "\nwhere  " ++ e.place.now
    ++ codes "\nsafe   " ++ e.safe.now
    ++ codes "\nnext   " ++ e.next.now
