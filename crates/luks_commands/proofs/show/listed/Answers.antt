use Rattle.luks_commands.proofs.ShowFacts.{refused_luks1, shows_luks1, shows_luks2}
use Rattle.luks_commands.proofs.show.listed.Goals as goal

pub returns-in-Ok-clause-answers : goal.returns-in-Ok-clause-answers
returns-in-Ok-clause-answers g c =
    rw c.in-Luks1.is (λ v is. shows_luks1 v c.in-Luks1.bytes c.in-Ok.header is c.in-Ok.ensures.faultless c.in-Ok.ensures.found)

pub returns-in-Err-clause-answers : goal.returns-in-Err-clause-answers
returns-in-Err-clause-answers g c =
    rw (c.in-Luks1.is, c.refused.ensures.answer, c.from.ensures) (refused_luks1 c.in-Luks1.bytes c.in-Err.fault c.in-Err.ensures.fault)

pub returns-in-Luks2-clause-answers : goal.returns-in-Luks2-clause-answers
returns-in-Luks2-clause-answers g c = rw c.in-Luks2.is (λ v is. shows_luks2 v c.in-Luks2.copy is)
