use Rattle.std.proofs.Common.{arith, sym}
use Rattle.serde_json.specs.View.{view}
use Rattle.luks_contradictions.specs.Contradictions.{has_marked}
use Rattle.luks_contradictions.proofs.Counted.{all_at, all_step}
use Rattle.luks_contradictions.proofs.marks.all_marked.Goals as goal

pub loop-number-preserved : goal.loop-number-preserved
loop-number-preserved c = all_step (has_marked c.args.mark (view c.args.value.now)) c.loop-number.number c.loop-number.invariant (sym c.if-not-has_marked.ensures)

pub returns-then-not-has_marked : goal.returns-then-not-has_marked
returns-then-not-has_marked c = sym (all_at (has_marked c.args.mark (view c.args.value.now)) c.loop-number.number c.args.count (omega arith) (sym c.if-not-has_marked.ensures))
