use Rattle.luks_laws.proofs.EditVolumeDecisions.{first_refusal1_or_unrefused, first_refusal2_or_unrefused, first_refusal_or_unrefused}
use Rattle.luks_laws.proofs.edit_laws.first_refusal_or_unrefused.Goals as goal

pub returns : goal.returns
returns c =
    let checked = c.first_fault_or_well_formed.ensures in
    let answer = c.every_keyslot_has_an_answer.ensures in
    record {
      luks1 = λ v payload. first_refusal1_or_unrefused v payload (checked v payload) (λ m. answer m v);
      luks2 = λ v payload. first_refusal2_or_unrefused v payload (checked v payload) (λ m. answer m v);
      volume = λ v payload. first_refusal_or_unrefused v payload (checked v payload) (λ m. answer m v);
    }
