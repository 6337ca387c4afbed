use Rattle.luks1_header.proofs.ReplacedEntryFacts.{before_same, header_replaced, others_same}
use Rattle.luks1_header.proofs.laws.replaced_entry_keeps_header.Goals as goal

pub returns-clause-header : goal.returns-clause-header
returns-clause-header c = header_replaced

pub returns-clause-before : goal.returns-clause-before
returns-clause-before c = before_same

pub returns-clause-others : goal.returns-clause-others
returns-clause-others c = others_same
