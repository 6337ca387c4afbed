use Rattle.luks_laws.proofs.VolumeDecisions.{some_answer}
use Rattle.luks_laws.proofs.laws.every_keyslot_has_an_answer.Goals as goal

pub returns : goal.returns
returns c = λ v n p.
    some_answer c.one_kind_of_area.ensures.some c.one_kind_of_area.ensures.good c.one_value.ensures c.one_choice.ensures.some c.one_choice.ensures.only
    c.names_say_numbers.ensures.says c.metadata_without_faults.ensures c.one_digest.ensures v n p
