use Rattle.std.proofs.Common.{◌+◌, below_more, arith}
use Rattle.luks1_mending.specs.Judging.{set_of}
use Rattle.luks1_mending.proofs.KeptFacts.{within}
use Rattle.luks1_mending.proofs.MendedFacts.{first_among}
use Rattle.luks1_mending.proofs.mended.first_pair.Goals as goal

pub loop-a-preserved : goal.loop-a-preserved
loop-a-preserved c = below_more _ _ c.loop-a.invariant (λ x. (let yes = c.is_pair.ensures.1 x in let no = c.if-is_pair.false in absurd (cc)))

pub returns-then-is_pair-clause-some : goal.returns-then-is_pair-clause-some
returns-then-is_pair-clause-some c = first_among c.args.header.now (set_of c.args.kept.now) c.loop-a.a (c.is_pair.ensures.0 c.if-is_pair.true) c.loop-a.invariant

pub returns-clause-none : goal.returns-clause-none
returns-clause-none c a x =
    c.loop-a.invariant a (let low = within c.args.kept.now (a + 1) x.next in let last = c.loop-a-test.false in omega (arith, low, last)) x
