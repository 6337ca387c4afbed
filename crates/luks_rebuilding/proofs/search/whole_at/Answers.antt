use Rattle.std.proofs.Common.{IsTrue, subst}
use Rattle.std.proofs.lemmas.Bool.{false≢true}
use Rattle.luks_rebuilding.proofs.SearchFacts.{not_begun}
use Rattle.luks_rebuilding.proofs.search.whole_at.Goals as goal

pub returns-then-not-begun-clause-found : goal.returns-then-not-begun-clause-found
returns-then-not-begun-clause-found g c = λ t.
    not_begun (g.D.Device.bytes c.args.source.now) c.args.place (λ brace.
    false≢true (subst IsTrue c.if-not-begun.true ((c.in_ok-begun.ensures.begun t).1 brace)))
