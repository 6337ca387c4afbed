use Rattle.std.proofs.Common.{refl}
use Rattle.luks_making.proofs.emptied.without_names.Goals as goal

pub returns-in-Some : goal.returns-in-Some
returns-in-Some c = c.with_member.ensures _ _ _ c.take_member.ensures.left c.in-Some.ensures.taken c.emptied_array.ensures

pub returns-in-None : goal.returns-in-None
returns-in-None c = c.in-None.ensures.none refl _
