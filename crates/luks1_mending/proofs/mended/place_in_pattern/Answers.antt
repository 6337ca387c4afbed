use Rattle.luks1_mending.specs.Judging.{set_of}
use Rattle.luks1_mending.proofs.MendedFacts.{first_there, none_there}
use Rattle.luks1_mending.proofs.mended.place_in_pattern.Goals as goal

pub place_by_pair-requires-clause-pair : goal.place_by_pair-requires-clause-pair
place_by_pair-requires-clause-pair c =
    first_there c.args.header.now c.args.key_bytes c.args.total (set_of c.args.kept.now) c.requires.kept c.in-Some.pair c.in-Some.ensures.some

pub returns-in-None-clause-none : goal.returns-in-None-clause-none
returns-in-None-clause-none c = none_there c.args.header.now c.args.key_bytes c.args.total (set_of c.args.kept.now) c.requires.kept c.in-None.ensures.none c.args.n
