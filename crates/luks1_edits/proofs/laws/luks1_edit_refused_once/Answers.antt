use Rattle.luks_edit.specs.EditFaults.{edit_key}
use Rattle.luks1_edits.specs.Refused.{IsEditFault1}
use Rattle.luks_reading.proofs.OneAnswer.{least_once}
use Rattle.luks1_edits.proofs.laws.luks1_edit_refused_once.Goals as goal

pub returns : goal.returns
returns c = λ v payload e random f g x y. least_once edit_key (IsEditFault1 v payload e random) f g x y
