use Rattle.std.proofs.Common.{Some, None, sym, subst}
use Rattle.luks_slot.specs.declared.allowed.Allowed.{Allowed}
use Rattle.luks_keeping_commands.specs.KeepingKey.{IsKeyOpened}
use Rattle.luks_keeping_commands.proofs.KeyFacts.{slot_key, volume_key}
use Rattle.luks_keeping_commands.proofs.key.open_narrow.Goals as goal

pub returns-in-Some-clause-opened : goal.returns-in-Some-clause-opened
returns-in-Some-clause-opened g c = λ tells is.
    let v = g.D.Device.bytes c.args.device.now in
    rw c.in-Some.is
    (subst (λ (a : Allowed). IsKeyOpened a v (Some c.in-Some.n) c.args.passphrase.now c.try_one.result) c.allowed_of-allowed.ensures
    (slot_key g.D.Device.tells c.allowed_of-allowed.result v c.args.header.now c.args.passphrase.now c.in-Some.n c.try_one.result tells is c.try_one.ensures.answers))

pub returns-in-None-clause-opened : goal.returns-in-None-clause-opened
returns-in-None-clause-opened g c = λ tells is.
    let v = g.D.Device.bytes c.args.device.now in
    rw c.in-None.is
    (subst (λ (a : Allowed). IsKeyOpened a v None c.args.passphrase.now c.key_of.result) c.allowed_of-allowed.ensures
    (subst (IsKeyOpened c.allowed_of-allowed.result v None c.args.passphrase.now) (sym c.key_of.ensures)
    (volume_key g.D.Device.tells c.allowed_of-allowed.result v c.args.header.now c.args.passphrase.now c.try_each.result tells is c.try_each.ensures.answers)))
