use Rattle.std.proofs.Common.{sym, ◌∙◌}
use Rattle.luks_vouching.proofs.SectorFacts.{next_alike, sectors_differ}
use Rattle.luks_vouching.proofs.areas.alike.Goals as goal

pub loop-k-preserved : goal.loop-k-preserved
loop-k-preserved c =
    next_alike c.args.first.now c.args.second.now c.loop-k.k c.loop-k.invariant (sym c.differ.ensures ∙ c.if-differ.false)

pub returns-then-differ-clause-next : goal.returns-then-differ-clause-next
returns-then-differ-clause-next c = λ inside.
    sectors_differ c.args.first.now c.args.second.now c.loop-k.k (sym c.differ.ensures ∙ c.if-differ.true)
