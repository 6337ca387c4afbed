use Rattle.std.proofs.Common.{sym, ◌∙◌}
use Rattle.luks_keeping.proofs.ComparisonFacts.{alike_fails, one_more_alike}
use Rattle.luks_keeping.proofs.comparison.are_all_alike.Goals as goal

pub returns-then-not-stands_alike : goal.returns-then-not-stands_alike
returns-then-not-stands_alike c =
    sym (alike_fails c.args.keyslots.now c.loop-keeping.keeping-index _ c.loop-keeping-test.true (sym c.stands_alike.ensures ∙ c.if-not-stands_alike.true))

pub loop-keeping-preserved : goal.loop-keeping-preserved
loop-keeping-preserved c =
    one_more_alike c.args.keyslots.now c.loop-keeping.keeping-index _ c.loop-keeping-test.true c.loop-keeping.invariant (sym c.stands_alike.ensures ∙ c.if-not-stands_alike.false)
