use Rattle.std.proofs.Common.{arith, refl}
use Rattle.luks_meta.specs.Content.{content}
use Rattle.luks2_judging.proofs.KeyslotFacts.{all_more, least_of, none_free}
use Rattle.luks2_judging.proofs.keyslots.least_free.Goals as goal

pub loop-n-preserved : goal.loop-n-preserved
loop-n-preserved c = all_more (content c.args.meta.now) c.loop-n.n c.loop-n.invariant (c.if-not-is_used.ensures.used refl)

pub returns-then-not-is_used : goal.returns-then-not-is_used
returns-then-not-is_used c = least_of (content c.args.meta.now) c.loop-n.n c.loop-n.invariant (c.if-not-is_used.ensures.free refl (omega arith))

pub returns : goal.returns
returns c = none_free (content c.args.meta.now) c.loop-n.n (omega arith) c.loop-n.invariant
