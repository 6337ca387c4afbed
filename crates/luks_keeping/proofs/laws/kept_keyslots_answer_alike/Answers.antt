use Rattle.luks_keeping.proofs.VolumeFacts.{answer_here, answer_there, well_formed_there}
use Rattle.luks_keeping.proofs.laws.kept_keyslots_answer_alike.Goals as goal

pub returns-clause-well_formed : goal.returns-clause-well_formed
returns-clause-well_formed c v w payload other d x kept well fits = well_formed_there v w payload other d x kept well fits

pub returns-clause-answers : goal.returns-clause-answers
returns-clause-answers c v w payload other d x kept well fits allowed n p a =
    (answer_there v w payload other d x kept well fits allowed n p a, answer_here v w payload other d x kept well fits allowed n p a)
