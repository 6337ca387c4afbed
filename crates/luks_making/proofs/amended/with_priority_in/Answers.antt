use Rattle.std.proofs.Common.{refl}
use Rattle.luks_making.specs.Amended.{priority_number, with_priority_number}
use Rattle.luks_making.proofs.amended.with_priority_in.Goals as goal

pub returns-in_ok-changed-in-Some : goal.returns-in_ok-changed-in-Some
returns-in_ok-changed-in-Some c =
    c.with_member.ensures (with_priority_number (priority_number c.args.priority)) _ _ c.take_member.ensures.left c.in-Some.ensures.taken
    (rw (← c.priority_number.ensures) c.in_ok-changed-in-Some.ensures)

pub returns-in-None : goal.returns-in-None
returns-in-None c = c.in-None.ensures.none refl _
