use Rattle.std.proofs.Common.{arith, lit≤, sym, ◌∙◌}
use Rattle.luks1_header.proofs.NumberFacts.{bytes_within}
use Rattle.luks2_header.proofs.BinaryHeaderFacts.{front_agrees, written_once}
use Rattle.luks2_header.proofs.laws.luks2_written_again_is_the_same.Goals as goal

pub returns-clause-bin2 : goal.returns-clause-bin2
returns-clause-bin2 c = λ v b h room bytes says written. (
  front_agrees b v h h.csum (omega (arith, written.long)) (omega (arith, room)) written.before_label written.offset
      (bytes_within v 0 4096 6 24 (lit≤ tt) (lit≤ tt) bytes) (bytes_within v 0 4096 256 264 (lit≤ tt) (lit≤ tt) bytes) written.fields says,
  written.fields.csum ∙ sym says.csum,
)

pub returns-clause-once : goal.returns-clause-once
returns-clause-once c = written_once
