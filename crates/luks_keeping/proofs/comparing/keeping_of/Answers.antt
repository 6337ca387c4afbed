use Rattle.luks_keeping.proofs.SaltFacts.{both_there, first_there, second_there}
use Rattle.luks_keeping.proofs.comparing.keeping_of.Goals as goal

pub returns-in-Some-volume : goal.returns-in-Some-volume
returns-in-Some-volume c =
    both_there c.args.backup.now c.args.volume.now c.in-Some.here c.in-Some-volume.there c.in-Some.is c.in-Some-volume.is c.same_or_older.result c.same_or_older.ensures

pub returns-in-None-volume : goal.returns-in-None-volume
returns-in-None-volume c = first_there c.args.backup.now c.args.volume.now c.in-Some.here c.in-Some.is c.in-None-volume.is

pub returns-in-Some-volume-2 : goal.returns-in-Some-volume-2
returns-in-Some-volume-2 c = second_there c.args.backup.now c.args.volume.now _ c.in-None.is c.in-Some-volume-2.is
