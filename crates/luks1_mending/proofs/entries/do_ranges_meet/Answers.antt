use Rattle.std.proofs.Common.{rules}
use Rattle.luks1_mending.proofs.MeetFacts.{meet_of, meet_second}
use Rattle.luks1_mending.proofs.entries.do_ranges_meet.Goals as goal

pub returns : goal.returns
returns c = (
  λ is. meet_of c.args.a c.args.b c.requires.first c.requires.second (c.begins_before_end.ensures.0 (search rules)) (c.begins_before_end-2.ensures.0 is),
  λ m. c.begins_before_end-2.ensures.1 (meet_second c.args.a c.args.b m),
)
