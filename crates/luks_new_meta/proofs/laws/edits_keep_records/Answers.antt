use Rattle.luks_new_meta.proofs.RecordFacts.{number_added, numbers_gone, numbers_removed, numbers_same, records_kept}
use Rattle.luks_new_meta.proofs.ToldFacts.{priority_told, unnamed_told}
use Rattle.luks_new_meta.proofs.laws.edits_keep_records.Goals as goal

pub returns-clause-rest : goal.returns-clause-rest
returns-clause-rest c = records_kept

pub returns-clause-removed : goal.returns-clause-removed
returns-clause-removed c = numbers_removed

pub returns-clause-erased : goal.returns-clause-erased
returns-clause-erased c = numbers_gone

pub returns-clause-added : goal.returns-clause-added
returns-clause-added c = number_added

pub returns-clause-changed : goal.returns-clause-changed
returns-clause-changed c = numbers_same

pub returns-clause-amended : goal.returns-clause-amended
returns-clause-amended c = unnamed_told

pub returns-clause-prior : goal.returns-clause-prior
returns-clause-prior c = priority_told
