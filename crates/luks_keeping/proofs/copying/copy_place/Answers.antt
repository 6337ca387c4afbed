use Rattle.luks_keeping.proofs.PlaceFacts.{no_place, of_place, place_copied}
use Rattle.luks_keeping.proofs.copying.copy_place.Goals as goal

pub copy_area-requires-clause-there : goal.copy_area-requires-clause-there
copy_area-requires-clause-there g c = c.requires.there.areas c.args.n c.in-Some.area (c.requires.numbered, c.in-Some.is)

pub copy_area-requires-clause-within : goal.copy_area-requires-clause-within
copy_area-requires-clause-within g c = c.requires.within.areas c.args.n c.in-Some.area (c.requires.numbered, c.in-Some.is)

pub returns-in-Some-clause-copied : goal.returns-in-Some-clause-copied
returns-in-Some-clause-copied g c = λ source tells.
    place_copied c.copy_area.result c.args.places.now c.args.n c.in-Some.area (g.S.Device.bytes c.args.source.now) (g.T.Device.bytes c.copy_area.new.target)
    (c.requires.numbered, c.in-Some.is) (c.copy_area.ensures.copied source tells)

pub returns-in-Some-clause-rest : goal.returns-in-Some-clause-rest
returns-in-Some-clause-rest g c = λ tells.
    of_place c.args.places.now c.args.n c.in-Some.area (c.requires.numbered, c.in-Some.is) (c.copy_area.ensures.rest tells)

pub returns-in-None-clause-copied : goal.returns-in-None-clause-copied
returns-in-None-clause-copied g c = λ source tells a is. absurd (no_place c.args.places.now c.args.n a c.in-None.is is)
