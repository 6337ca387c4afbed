use Rattle.std.proofs.Common.{below_more, arith}
use Rattle.luks1_mending.proofs.KeptFacts.{within}
use Rattle.luks1_mending.proofs.kept.meets_kept.Goals as goal

pub loop-m-preserved : goal.loop-m-preserved
loop-m-preserved c = below_more _ _ c.loop-m.invariant (λ x. (let yes = c.is_met.ensures.1 x in let no = c.if-is_met.false in absurd (cc)))

pub returns : goal.returns
returns c = (
  λ no. absurd (cc),
  λ x. absurd (c.loop-m.invariant x.0 (let low = within c.args.kept.now x.0 x.1.among in let last = c.loop-m-test.false in omega (arith, low, last)) x.1),
)
