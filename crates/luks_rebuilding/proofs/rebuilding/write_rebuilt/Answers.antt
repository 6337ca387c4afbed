use Rattle.luks_writing.proofs.MadeInOrderFacts.{cleared_then, clearing_fails}
use Rattle.luks_rebuilding.proofs.WrittenFacts.{sector_fits}
use Rattle.luks_rebuilding.proofs.rebuilding.write_rebuilt.Goals as goal

pub returns-in_err-clear_places-clause-order : goal.returns-in_err-clear_places-clause-order
returns-in_err-clear_places-clause-order g c = λ source tells uuid is.
    clearing_fails c.args.found.now.place.size (sector_fits c.args.found.now (g.S.Device.size c.args.source.now) (g.T.Device.size c.args.target.now) c.requires.whole c.requires.region)
    (c.clear_places.ensures.rest tells) (c.clear_places.ensures.order tells)

pub returns-clause-order : goal.returns-clause-order
returns-clause-order g c = λ source tells uuid is.
    cleared_then c.args.found.now.place.size (sector_fits c.args.found.now (g.S.Device.size c.args.source.now) (g.T.Device.size c.args.target.now) c.requires.whole c.requires.region)
    (c.in_ok-clear_places.ensures.cleared tells) (c.clear_places.ensures.rest tells) (c.write_over_cleared.ensures.order source tells uuid is)
