use Rattle.std.proofs.lemmas.Result.{on_ok_weaker}
use Rattle.luks_formatting.proofs.EncryptingFacts.{sizes}
use Rattle.luks_formatting.proofs.Written1Facts.{cleared_rest, clearing_fails, over_cleared, over_order, over_rest}
use Rattle.luks_formatting.proofs.luks1.write_volume.Goals as goal

pub returns-in_err-clear_places-clause-rest : goal.returns-in_err-clear_places-clause-rest
returns-in_err-clear_places-clause-rest g c tells = cleared_rest c.args.given.now.key_bytes (sizes c.args.given.now.cipher c.args.given.now.key_bytes c.requires.sound.takes).low (c.clear_places.ensures.rest tells)

pub returns-in_err-clear_places-clause-order : goal.returns-in_err-clear_places-clause-order
returns-in_err-clear_places-clause-order g c tells =
    let bytes = g.D.Device.bytes in
    clearing_fails c.args.given.now c.args.format.now c.args.passphrase.now c.args.random.now (bytes c.args.device.now) (bytes c.clear_places.new.device) (c.clear_places.ensures.order tells)

pub returns-clause-rest : goal.returns-clause-rest
returns-clause-rest g c tells = over_rest c.args.given.now.key_bytes (sizes c.args.given.now.cipher c.args.given.now.key_bytes c.requires.sound.takes).low (c.clear_places.ensures.rest tells) (c.write_over_cleared.ensures.rest tells)

pub returns-clause-order : goal.returns-clause-order
returns-clause-order g c tells =
    let bytes = g.D.Device.bytes in
    over_order c.args.given.now c.args.format.now c.args.passphrase.now c.args.random.now (bytes c.args.device.now) (bytes c.clear_places.new.device)
    (bytes c.write_over_cleared.new.device) (c.in_ok-clear_places.ensures.cleared tells) (c.write_over_cleared.ensures.order tells)

pub returns-clause-formatted : goal.returns-clause-formatted
returns-clause-formatted g c tells =
    let bytes = g.D.Device.bytes in
    on_ok_weaker c.write_over_cleared.result (over_cleared c.args.given.now c.args.format.now c.args.passphrase.now c.args.random.now (bytes c.args.device.now)
    (bytes c.clear_places.new.device) (bytes c.write_over_cleared.new.device) (sizes c.args.given.now.cipher c.args.given.now.key_bytes c.requires.sound.takes).low (c.clear_places.ensures.rest tells)) (c.write_over_cleared.ensures.formatted tells)
