use Rattle.luks2_edit_laws.proofs.AmendedAnswers.{change_keeps}
use Rattle.luks2_edit_laws.proofs.AfterFacts.{after_keeps, lost_shut, lost_zeros, now_chosen}
use Rattle.luks2_edit_laws.proofs.laws.luks2_edit_keeps_volume.Goals as goal

pub returns : goal.returns
returns c = record {
  keeps = λ payload e v random w. after_keeps v payload e random w;
  lost = λ payload e v random w n a. lost_zeros v payload e random w n a;
  shut = λ payload e v random w n. lost_shut v payload e random w n;
  chosen = λ payload e v random w. now_chosen v payload e random w;
  amended = λ payload e v random w c. change_keeps v payload e random w c;
}
