use Rattle.luks_reading.proofs.Luks2FaultFacts.{region_some, region_none}
use Rattle.luks_reading.proofs.judging.segment_below.Goals as goal

pub returns-in-Here-clause-some : goal.returns-in-Here-clause-some
returns-in-Here-clause-some c = λ json holds. region_some json c.args.payload c.args.meta.now _ holds c.in-Here.is c.first_segment_below.ensures

pub returns-in-Here-clause-none : goal.returns-in-Here-clause-none
returns-in-Here-clause-none c = λ json holds none here. region_none json c.args.meta.now _ holds c.first_segment_below.ensures none
