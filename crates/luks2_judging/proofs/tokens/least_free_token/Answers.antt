use Rattle.std.proofs.Common.{arith, refl}
use Rattle.luks_meta.specs.Content.{content}
use Rattle.luks2_judging.proofs.TokenFacts.{all_more, least_of, none_free}
use Rattle.luks2_judging.proofs.tokens.least_free_token.Goals as goal

pub loop-n-preserved : goal.loop-n-preserved
loop-n-preserved c = all_more (content c.args.meta.now) c.loop-n.n c.loop-n.invariant (c.if-not-is_token.ensures.used refl)

pub returns-then-not-is_token : goal.returns-then-not-is_token
returns-then-not-is_token c = least_of (content c.args.meta.now) c.loop-n.n c.loop-n.invariant (c.if-not-is_token.ensures.free refl (omega arith))

pub returns : goal.returns
returns c = none_free (content c.args.meta.now) c.loop-n.n (omega arith) c.loop-n.invariant
