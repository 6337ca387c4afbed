use Rattle.luks1_rebuilding.proofs.UsedFacts.{cleared_rest, over_order, over_rest}
use Rattle.luks1_rebuilding.proofs.rebuilding.write_rebuilt.Goals as goal

pub returns-in_err-clear_places-clause-rest : goal.returns-in_err-clear_places-clause-rest
returns-in_err-clear_places-clause-rest g c = λ tells. cleared_rest c.args.header.now.fields (c.clear_places.ensures.rest tells)

pub returns-clause-rest : goal.returns-clause-rest
returns-clause-rest g c = λ tells. over_rest c.args.header.now.fields (c.clear_places.ensures.rest tells) (c.write_over_cleared.ensures.rest tells)

pub returns-clause-order : goal.returns-clause-order
returns-clause-order g c = λ source tells.
    over_order c.args.header.now.fields (g.S.Device.bytes c.args.source.now) (g.T.Device.bytes c.args.target.now) (g.T.Device.bytes c.clear_places.new.device)
    (g.T.Device.bytes c.write_over_cleared.new.target) (c.in_ok-clear_places.ensures.cleared tells) (c.write_over_cleared.ensures.order source tells)
