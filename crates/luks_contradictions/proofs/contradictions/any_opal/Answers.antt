use Rattle.std.proofs.Common.{arith, sym}
use Rattle.serde_json.specs.View.{view}
use Rattle.luks_underway.specs.Kinds.{has_opal}
use Rattle.luks_contradictions.proofs.Counted.{any_at, any_step}
use Rattle.luks_contradictions.proofs.contradictions.any_opal.Goals as goal

pub loop-number-preserved : goal.loop-number-preserved
loop-number-preserved c = any_step (has_opal (view c.args.value.now)) c.loop-number.number c.loop-number.invariant (sym c.if-has_opal.ensures)

pub returns-then-has_opal : goal.returns-then-has_opal
returns-then-has_opal c = sym (any_at (has_opal (view c.args.value.now)) c.loop-number.number c.args.count (omega arith) (sym c.if-has_opal.ensures))
