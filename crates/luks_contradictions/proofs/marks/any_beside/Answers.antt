use Rattle.std.proofs.Common.{arith, sym}
use Rattle.serde_json.specs.View.{view}
use Rattle.luks_contradictions.specs.Contradictions.{has_beside}
use Rattle.luks_contradictions.proofs.Counted.{any_at, any_step}
use Rattle.luks_contradictions.proofs.marks.any_beside.Goals as goal

pub loop-number-preserved : goal.loop-number-preserved
loop-number-preserved c = any_step (has_beside c.args.beside (view c.args.value.now) (view c.args.segment.now)) c.loop-number.number c.loop-number.invariant (sym c.if-has_beside.ensures)

pub returns-then-has_beside : goal.returns-then-has_beside
returns-then-has_beside c = sym (any_at (has_beside c.args.beside (view c.args.value.now) (view c.args.segment.now)) c.loop-number.number c.args.count (omega arith) (sym c.if-has_beside.ensures))
