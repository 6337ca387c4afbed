use Rattle.std.proofs.Common.{lit≤}
use Rattle.luks_area.specs.Ranges.{part}
use Rattle.luks_area.proofs.RangeFacts.{length-part_inside}
use Rattle.luks1_header.proofs.Luks1HeaderFacts.{back, common_fault_moves, common_moves, entry_moves, fault_moves, first_of, header_moves}
use Rattle.luks1_header.proofs.laws.luks1_is_first_bytes.Goals as goal

pub returns-clause-header : goal.returns-clause-header
returns-clause-header c = λ v d long. (
  header_moves (part v 0 592) v d long (first_of v 592),
  header_moves v (part v 0 592) d (rw (length-part_inside v 0 592 long) (lit≤ tt)) (back 592 _ _ (first_of v 592)),
)

pub returns-clause-faults : goal.returns-clause-faults
returns-clause-faults c = λ v f long. (
  fault_moves (part v 0 592) v (rw (length-part_inside v 0 592 long) (lit≤ tt)) (first_of v 592) f,
  fault_moves v (part v 0 592) long (back 592 _ _ (first_of v 592)) f,
)

pub returns-clause-common : goal.returns-clause-common
returns-clause-common c = λ v d. (
  common_moves 208 (part v 0 208) v d (lit≤ tt) (first_of v 208),
  common_moves 208 v (part v 0 208) d (lit≤ tt) (back 208 _ _ (first_of v 208)),
)

pub returns-clause-common_faults : goal.returns-clause-common_faults
returns-clause-common_faults c = λ v f. (
  common_fault_moves 208 (part v 0 208) v (lit≤ tt) (first_of v 208) f,
  common_fault_moves 208 v (part v 0 208) (lit≤ tt) (back 208 _ _ (first_of v 208)) f,
)

pub returns-clause-entry : goal.returns-clause-entry
returns-clause-entry c = λ v n lt. entry_moves (part v 0 592) v (first_of v 592) n lt
