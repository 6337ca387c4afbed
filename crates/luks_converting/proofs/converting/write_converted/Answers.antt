use Rattle.std.proofs.Common.{lit≤}
use Rattle.std.proofs.lemmas.Result.{on_ok_weaker}
use Rattle.luks_area.proofs.RangeFacts.{same_but-wider}
use Rattle.luks_writing.proofs.MadeInOrderFacts.{cleared_then, clearing_fails, clearing_widens}
use Rattle.luks_converting.proofs.WrittenFacts.{converted_over, sectors_of_copies}
use Rattle.luks_converting.proofs.converting.write_converted.Goals as goal

-- the clearing failed

pub returns-in_err-clear_places-clause-rest : goal.returns-in_err-clear_places-clause-rest
returns-in_err-clear_places-clause-rest g c = λ tells.
    same_but-wider (sectors_of_copies c.args.header.now.bytes) (c.clear_places.ensures.rest tells)

pub returns-in_err-clear_places-clause-order : goal.returns-in_err-clear_places-clause-order
returns-in_err-clear_places-clause-order g c = λ source tells begins.
    clearing_fails 16384 (lit≤ tt) (c.clear_places.ensures.rest tells) (c.clear_places.ensures.order tells)

-- the places are cleared

pub returns-clause-rest : goal.returns-clause-rest
returns-clause-rest g c = λ tells.
    clearing_widens 16384 (sectors_of_copies c.args.header.now.bytes) (c.clear_places.ensures.rest tells) (c.write_over_cleared.ensures.rest tells)

pub returns-clause-order : goal.returns-clause-order
returns-clause-order g c = λ source tells begins.
    cleared_then 16384 (lit≤ tt) (c.in_ok-clear_places.ensures.cleared tells) (c.clear_places.ensures.rest tells) (c.write_over_cleared.ensures.order source tells begins)

pub returns-clause-converted : goal.returns-clause-converted
returns-clause-converted g c = λ source tells begins.
    on_ok_weaker c.write_over_cleared.result (converted_over (g.S.Device.bytes c.args.source.now) c.args.random.now (c.clear_places.ensures.rest tells))
    (c.write_over_cleared.ensures.converted source tells begins)
