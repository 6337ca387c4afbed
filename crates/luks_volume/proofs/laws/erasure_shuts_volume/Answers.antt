use Rattle.luks_edit.specs.declared.edit.Edit.TheVariants.{Erase}
use Rattle.luks_volume.proofs.EditFacts.{done_keeps}
use Rattle.luks_volume.proofs.OutcomeFacts.{erased_shut, erased_zeros}
use Rattle.luks_volume.proofs.laws.erasure_shuts_volume.Goals as goal

pub returns : goal.returns
returns c = record {
  keeps = λ payload v random w done well is. done_keeps payload v w Erase random done well is;
  shut = erased_shut;
  wiped = erased_zeros;
}
