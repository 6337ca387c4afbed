use Rattle.luks2_header.proofs.ChoiceFacts.{chosen_is_sound}
use Rattle.luks2_header.proofs.laws.chosen_copy_is_sound.Goals as goal

pub returns : goal.returns
returns c = λ v o copies chosen. chosen_is_sound v o copies chosen.1
