use Rattle.std.proofs.Common.{Some, None, sym, subst}
use Rattle.luks_area.specs.Device.{CountsFailure}
use Rattle.luks_slot.specs.declared.allowed.Allowed.{Allowed}
use Rattle.luks_keeping_commands.specs.KeepingKey.{is_key_failure, key_of, opened_by, IsUnderwayFound}
use Rattle.luks_keeping_commands.proofs.KeyFacts.{counts_key, counts_opened, counts_wide, underway_key, underway_slot_key}
use Rattle.luks_keeping_commands.proofs.key.open_underway.Goals as goal

pub returns-in-Some-clause-opened : goal.returns-in-Some-clause-opened
returns-in-Some-clause-opened g c = λ tells is.
    let v = g.D.Device.bytes c.args.device.now in
    rw c.in-Some.is
    (subst (λ (a : Allowed). IsUnderwayFound a v (Some c.in-Some.n) c.args.passphrase.now c.wide_opened_by.result) c.allowed_of-limits.ensures
    (subst (IsUnderwayFound c.allowed_of-limits.result v (Some c.in-Some.n) c.args.passphrase.now) (sym c.wide_opened_by.ensures)
    (underway_slot_key g.D.Device.tells c.allowed_of-limits.result (g.D.Device.size c.args.device.now) v c.args.copy.now c.args.passphrase.now tells
    (sym (g.met.D.Device.sized c.args.device.now tells)) is c.in-Some.n c.try_underway_slot.result c.try_underway_slot.ensures.answers)))

pub returns-in-None-clause-opened : goal.returns-in-None-clause-opened
returns-in-None-clause-opened g c = λ tells is.
    let v = g.D.Device.bytes c.args.device.now in
    rw c.in-None.is
    (subst (λ (a : Allowed). IsUnderwayFound a v None c.args.passphrase.now c.opened_by.result) c.allowed_of-limits.ensures
    (subst (IsUnderwayFound c.allowed_of-limits.result v None c.args.passphrase.now) (sym c.opened_by.ensures)
    (subst (λ r. IsUnderwayFound c.allowed_of-limits.result v None c.args.passphrase.now (opened_by r)) (sym c.key_of.ensures)
    (underway_key g.D.Device.tells c.allowed_of-limits.result (g.D.Device.size c.args.device.now) v c.args.copy.now c.args.passphrase.now tells
    (sym (g.met.D.Device.sized c.args.device.now tells)) is c.try_underway.result c.try_underway.ensures.kinds c.try_underway.ensures.answers))))

pub returns-in-Some-clause-count : goal.returns-in-Some-clause-count
returns-in-Some-clause-count g c =
    subst (λ r. CountsFailure is_key_failure r (g.D.Device.failed c.args.device.now) (g.D.Device.failed c.try_underway_slot.new.device)) (sym c.wide_opened_by.ensures)
    (counts_wide c.try_underway_slot.result _ _ c.try_underway_slot.ensures.count)

pub returns-in-None-clause-count : goal.returns-in-None-clause-count
returns-in-None-clause-count g c =
    subst (λ r. CountsFailure is_key_failure r (g.D.Device.failed c.args.device.now) (g.D.Device.failed c.try_underway.new.device)) (sym c.opened_by.ensures)
    (subst (λ r. CountsFailure is_key_failure (opened_by r) (g.D.Device.failed c.args.device.now) (g.D.Device.failed c.try_underway.new.device)) (sym c.key_of.ensures)
    (counts_opened (key_of c.try_underway.result) _ _ (counts_key c.try_underway.result _ _ c.try_underway.ensures.count)))
