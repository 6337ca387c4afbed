use Rattle.luks_keeping.proofs.PlaceFacts.{no_place, of_place}
use Rattle.luks_keeping.proofs.ReadFacts.{no_place_left, place_left}
use Rattle.luks_reading.proofs.CheckFacts.{on_ok}
use Rattle.luks_keeping.proofs.reading_on.rescue_place.Goals as goal

pub rescue_area-requires-clause-there : goal.rescue_area-requires-clause-there
rescue_area-requires-clause-there g c = c.requires.there.areas c.args.n c.in-Some.area (c.requires.numbered, c.in-Some.is)

pub rescue_area-requires-clause-within : goal.rescue_area-requires-clause-within
rescue_area-requires-clause-within g c = c.requires.within.areas c.args.n c.in-Some.area (c.requires.numbered, c.in-Some.is)

pub returns-in-Some-clause-rest : goal.returns-in-Some-clause-rest
returns-in-Some-clause-rest g c = λ tells.
    of_place c.args.places.now c.args.n c.in-Some.area (c.requires.numbered, c.in-Some.is) (c.rescue_area.ensures.rest tells)

pub returns-in-Some-clause-rescued : goal.returns-in-Some-clause-rescued
returns-in-Some-clause-rescued g c =
    on_ok c.rescue_area.result (λ left.
    place_left (g.S.Device.tells × g.T.Device.tells) c.args.places.now c.args.n c.in-Some.area (g.S.Device.bytes c.args.source.now) (g.T.Device.bytes c.rescue_area.new.target)
    (g.S.Device.failed c.args.source.now) (g.S.Device.failed c.rescue_area.new.source) (c.requires.numbered, c.in-Some.is) left) c.rescue_area.ensures.rescued

pub returns-in-None-clause-rescued : goal.returns-in-None-clause-rescued
returns-in-None-clause-rescued g c =
    no_place_left (g.S.Device.tells × g.T.Device.tells) c.args.places.now c.args.n (g.S.Device.bytes c.args.source.now) (g.T.Device.bytes c.args.target.now) (g.S.Device.failed c.args.source.now)
    (λ a is. no_place c.args.places.now c.args.n a c.in-None.is is)
