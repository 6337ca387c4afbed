use Rattle.luks1_edits.proofs.ShutFacts.{removed_shut}
use Rattle.luks1_edits.proofs.laws.luks1_removed_keyslot_is_shut.Goals as goal

pub returns : goal.returns
returns c = λ payload e v random w n chosen well free after is. removed_shut payload v chosen well e random w n free after is
