use Rattle.luks_edit.specs.declared.edit.Edit.TheVariants.{Erase}
use Rattle.luks2_edit_laws.proofs.RefusalFacts.{leftover_refused}
use Rattle.luks2_edit_laws.proofs.TornFacts.{leftover_outcome}
use Rattle.luks2_edit_laws.proofs.TouchedFacts.{leftover_rest}
use Rattle.luks2_edit_laws.proofs.laws.luks2_failing_edit.Goals as goal

pub returns : goal.returns
returns c = record {
  rest = λ payload e v random w. leftover_rest v payload e random w;
  refused = λ payload e v random w. leftover_refused v payload e random w;
  keeps = λ payload e v random w well ranges left stray. (leftover_outcome v payload e random w well ranges left stray).keeps;
  whole = λ payload e v random w well ranges left stray. (leftover_outcome v payload e random w well ranges left stray).whole;
  erased = λ payload v random w well ranges left stray. (leftover_outcome v payload Erase random w well ranges left stray).erases_all;
  opens = λ payload e v random w well ranges left stray. (leftover_outcome v payload e random w well ranges left stray).opens_either;
}
