use Rattle.std.proofs.Common.{sym, ◌∙◌}
use Rattle.luks_area.proofs.Cutting.{take-position, before_first-all}
use Rattle.luks_area.proofs.text.before_zero.Goals as goal

pub returns-in-Some : goal.returns-in-Some
returns-in-Some c = take-position _ _ _ (sym c.first_zero.ensures ∙ c.in-Some.is)

pub returns-in-None : goal.returns-in-None
returns-in-None c = before_first-all _ _ (sym c.first_zero.ensures ∙ c.in-None.is)
