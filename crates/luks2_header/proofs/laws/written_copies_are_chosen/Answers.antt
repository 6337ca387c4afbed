use Rattle.luks2_header.proofs.BinaryHeaderFacts.{written_in_step, written_is_sound, zeroed_then}
use Rattle.luks2_header.proofs.laws.written_copies_are_chosen.Goals as goal

pub returns-clause-sound : goal.returns-clause-sound
returns-clause-sound c = written_is_sound

pub returns-clause-fed : goal.returns-clause-fed
returns-clause-fed c = zeroed_then

pub returns-clause-in_step : goal.returns-clause-in_step
returns-clause-in_step c = written_in_step
