use Rattle.std.proofs.Common.{refl}
use Rattle.luks_making.proofs.emptied.take_names.Goals as goal

pub returns-in_ok-changed-in-Some : goal.returns-in_ok-changed-in-Some
returns-in_ok-changed-in-Some c = c.with_member.ensures _ _ _ c.take_member.ensures.left c.in-Some.ensures.taken c.in_ok-changed-in-Some.ensures

pub returns-in-None : goal.returns-in-None
returns-in-None c = c.in-None.ensures.none refl _
