use Rattle.std.proofs.Common.{refl}
use Rattle.luks_json.specs.Number.{number_text}
use Rattle.luks_making.specs.Amended.{priority_number, with_priority_number}
use Rattle.luks_making.specs.Changing.{at_member}
use Rattle.luks_making.proofs.amended.with_priority.Goals as goal

pub returns-in_ok-changed-in-Some : goal.returns-in_ok-changed-in-Some
returns-in_ok-changed-in-Some c =
    c.with_member.ensures (at_member (number_text c.args.number) (with_priority_number (priority_number c.args.priority))) _ _ c.take_member.ensures.left c.in-Some.ensures.taken
    (rw (← c.number_text.ensures) c.in_ok-changed-in-Some.ensures)

pub returns-in-None : goal.returns-in-None
returns-in-None c = c.in-None.ensures.none refl _
