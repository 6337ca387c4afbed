use Rattle.std.proofs.Common.{arith}
use Rattle.luks_meta.specs.Content.{content}
use Rattle.luks2_judging.proofs.LastFacts.{only_all, only_more}
use Rattle.luks2_judging.proofs.rows.is_only_name.Goals as goal
use Rattle.luks2_judging.proofs.rows.is_only_name.Goals.{else-n-slot-via-then-n-slot+else-is_named, else-n-slot-via-else-n-slot}

pub loop-n-preserved : goal.loop-n-preserved
loop-n-preserved c = only_more (content c.args.meta.now) c.args.digest c.args.slot c.loop-n.n c.loop-n.invariant (λ names. elim c.else-n-slot.branch [
  | else-n-slot-via-then-n-slot+else-is_named w ↦ absurd (w.is_named.ensures.unnamed w.if-is_named.false names)
  | else-n-slot-via-else-n-slot w ↦ w.if-n-slot.false
])

pub returns-clause-only : goal.returns-clause-only
returns-clause-only c = λ yes. only_all (content c.args.meta.now) c.args.digest c.args.slot c.loop-n.n (omega arith) c.loop-n.invariant
