use Rattle.luks_edit.specs.EditFaults.{edit_key}
use Rattle.luks2_edit_laws.specs.Refused.{IsEditFault2}
use Rattle.luks_reading.proofs.OneAnswer.{least_once}
use Rattle.luks2_edit_laws.proofs.laws.luks2_edit_refused_once.Goals as goal

pub returns : goal.returns
returns c = λ v payload e random f g x y. least_once edit_key (IsEditFault2 v payload e random) f g x y
