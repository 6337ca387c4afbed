use Rattle.std.proofs.Common.{inr, refl}
use Rattle.luks_edit_commands.proofs.edit.asked.no_token.Goals as goal

pub returns-in-Ok-clause-is : goal.returns-in-Ok-clause-is
returns-in-Ok-clause-is c = λ v is long. inr (refl, (c.in-Ok.ensures.tells v is long).unrefused)
