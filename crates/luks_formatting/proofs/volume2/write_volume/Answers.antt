use Rattle.std.proofs.Common.{lit≤}
use Rattle.std.proofs.lemmas.Result.{on_ok_weaker}
use Rattle.luks_writing.proofs.MadeInOrderFacts.{cleared_then, clearing_fails}
use Rattle.luks_formatting.proofs.Written2Facts.{cleared_rest, over_cleared, over_rest}
use Rattle.luks_formatting.proofs.volume2.write_volume.Goals as goal

pub returns-in_err-clear_places-clause-rest : goal.returns-in_err-clear_places-clause-rest
returns-in_err-clear_places-clause-rest g c tells = cleared_rest c.args.volume.now.given.now.key_bytes (c.clear_places.ensures.rest tells)

pub returns-in_err-clear_places-clause-order : goal.returns-in_err-clear_places-clause-order
returns-in_err-clear_places-clause-order g c tells = clearing_fails 16384 (lit≤ tt) (c.clear_places.ensures.rest tells) (c.clear_places.ensures.order tells)

pub returns-clause-rest : goal.returns-clause-rest
returns-clause-rest g c tells = over_rest c.args.volume.now.given.now.key_bytes (c.clear_places.ensures.rest tells) (c.write_over_cleared.ensures.rest tells)

pub returns-clause-order : goal.returns-clause-order
returns-clause-order g c tells = cleared_then 16384 (lit≤ tt) (c.in_ok-clear_places.ensures.cleared tells) (c.clear_places.ensures.rest tells) (c.write_over_cleared.ensures.order tells)

pub returns-clause-formatted : goal.returns-clause-formatted
returns-clause-formatted g c tells =
    let bytes = g.D.Device.bytes in
    on_ok_weaker c.write_over_cleared.result (over_cleared c.args.volume.now.given.now c.args.volume.now.format.now c.args.volume.now.chosen c.args.volume.now.passphrase.bytes.now c.args.volume.now.random.now (bytes c.args.device.now)
    (bytes c.clear_places.new.device) (bytes c.write_over_cleared.new.device) (c.clear_places.ensures.rest tells)) (c.write_over_cleared.ensures.formatted tells)
