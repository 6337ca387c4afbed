-- The keyslots that are tried first, and then the others.
use Rattle.luks_commands.proofs.SearchFacts.{found_first, found_later}
use Rattle.luks_commands.proofs.open.searching.search.Goals as goal

pub returns-in-Some-clause-searches : goal.returns-in-Some-clause-searches
returns-in-Some-clause-searches g c =
    let t = c.args.trial.now in
    found_first g.D.Device.tells (g.D.Device.bytes c.args.device.now) t.header.now t.allowed t.passphrase.now
    (g.D.Device.failed c.args.device.now) (g.D.Device.failed c.try_turn.new.device) c.in-Some.n c.in-Some.ensures.tries

pub returns-in-None-clause-searches : goal.returns-in-None-clause-searches
returns-in-None-clause-searches g c =
    let t = c.args.trial.now in
    found_later g.D.Device.tells (g.D.Device.bytes c.args.device.now) (g.D.Device.bytes c.try_turn.new.device) t.header.now t.allowed t.passphrase.now
    (g.D.Device.failed c.args.device.now) (g.D.Device.failed c.try_turn.new.device) (g.D.Device.failed c.try_turn-in-None.new.device) c.try_turn-in-None.result
    c.in-None.ensures.unchanged.same c.in-None.ensures.tries c.try_turn-in-None.ensures.tries
