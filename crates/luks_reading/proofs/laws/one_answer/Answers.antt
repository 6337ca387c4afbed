use Rattle.luks_reading.proofs.VolumeLaws.{one_answer}
use Rattle.luks_reading.proofs.laws.one_answer.Goals as goal

pub returns : goal.returns
returns c = one_answer
