-- What judging the key gave is answered.
use Rattle.luks_commands.proofs.KeyFacts.{key_kinds}
use Rattle.luks_commands.proofs.matching.match_device.Goals as goal

pub returns-clause-kinds : goal.returns-clause-kinds
returns-clause-kinds g c = key_kinds c.judge-judged.result c.answer_of.result c.answer_of.ensures

pub returns-clause-answers : goal.returns-clause-answers
returns-clause-answers g c = record {
  judged = c.judge-judged.result;
  counted = c.judge-judged.ensures.count;
  told = c.judge-judged.ensures.told;
  is = c.answer_of.ensures;
}
