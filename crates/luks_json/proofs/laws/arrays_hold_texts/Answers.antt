use Rattle.luks_json.proofs.ArrayTexts.{each_once, each_there, has_name, name_had, once_each, there_each}
use Rattle.luks_json.proofs.laws.arrays_hold_texts.Goals as goal

pub returns-clause-has : goal.returns-clause-has
returns-clause-has c = λ t items. (has_name t items, name_had t items)

pub returns-clause-there : goal.returns-clause-there
returns-clause-there c = λ map items. (each_there map items, there_each map items)

pub returns-clause-once : goal.returns-clause-once
returns-clause-once c = λ items. (each_once items, once_each items)
