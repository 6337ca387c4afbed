use Rattle.std.proofs.Common.{◌<◌, List, length, subst}
use Rattle.luks_rebuilding.specs.Found.{IsFirstAt}
use Rattle.luks_rebuilding.specs.declared.standing.Standing.{Standing}
use Rattle.luks_rebuilding.proofs.StandingFacts.{taken_first}
use Rattle.luks_rebuilding.proofs.standing.take_first.Goals as goal

pub returns-clause-taken : goal.returns-clause-taken
returns-clause-taken c =
    taken_first c.args.left.now.items c.remove.new.self.items c.first_of-at.result c.remove.result
    (subst (λ (l : List Standing). c.first_of-at.result < length l) c.deref.ensures.0 c.first_of-at.ensures.inside)
    (subst (λ (l : List Standing). IsFirstAt l c.first_of-at.result) c.deref.ensures.0 c.first_of-at.ensures.first)
    c.remove.ensures.value c.remove.ensures.items
