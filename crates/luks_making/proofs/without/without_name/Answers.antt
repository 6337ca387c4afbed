use Rattle.std.proofs.Common.{refl}
use Rattle.luks_making.proofs.without.without_name.Goals as goal

pub returns-in-Some : goal.returns-in-Some
returns-in-Some c = c.with_member.ensures _ _ _ c.take_member.ensures.left c.in-Some.ensures.taken c.array_without.ensures

pub returns-in-None : goal.returns-in-None
returns-in-None c = c.in-None.ensures.none refl _
