use Rattle.luks_rebuilding.proofs.FoundFacts.{passes_so}
use Rattle.luks_rebuilding.proofs.candidate.pass_counting.Goals as goal

pub returns-else-may_count-clause-passes : goal.returns-else-may_count-clause-passes
returns-else-may_count-clause-passes g c = λ t.
    passes_so (g.D.Device.bytes c.args.source.now) c.args.which c.nothing_counts.result (c.nothing_counts.ensures.nothing t)
