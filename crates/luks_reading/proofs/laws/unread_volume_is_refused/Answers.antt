use Rattle.luks2_header.proofs.ChoiceFacts.{choices_agree}
use Rattle.luks_reading.proofs.CheckFacts.{unread_refused}
use Rattle.luks_reading.proofs.laws.unread_volume_is_refused.Goals as goal

pub returns : goal.returns
returns c = unread_refused choices_agree
