-- What opening the keyslot gave is what trying it gives.
use Rattle.std.proofs.Common.{sym, subst}
use Rattle.luks_commands.specs.Turns.{TriesOne}
use Rattle.luks_commands.proofs.SearchFacts.{tries_one}
use Rattle.luks_commands.proofs.open.searching.opens.Goals as goal

pub returns-clause-tries : goal.returns-clause-tries
returns-clause-tries g c =
    let v = g.D.Device.bytes c.args.device.now in
    subst (TriesOne g.D.Device.tells v c.args.trial.now.header.now c.args.trial.now.allowed c.args.trial.now.passphrase.now c.args.n _ _) (sym c.is_opened.ensures)
    (tries_one g.D.Device.tells v c.args.trial.now.header.now c.args.trial.now.allowed c.args.trial.now.passphrase.now c.args.n _ _ c.open_header_slot-opened.result
    c.open_header_slot-opened.ensures.count c.open_header_slot-opened.ensures.answers)
