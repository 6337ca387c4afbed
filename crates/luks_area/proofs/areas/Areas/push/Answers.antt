use Rattle.luks_area.proofs.Increasing.{increasing-append_one}
use Rattle.luks_area.proofs.areas.Areas.push.Goals as goal

pub invariant_of-self : goal.invariant_of-self
invariant_of-self c =
    rw c.push.ensures.items (increasing-append_one _ _ c.self.invariant (rw c.self.view_is c.requires.last))
