-- A keyslot that is refused or gives no key doesn't open.
use Rattle.std.proofs.Common.{◌≡◌, ℕ, length, subst, sym}
use Rattle.luks_reading.specs.Luks1Keyslots.{Luks1Refused}
use Rattle.luks_reading.proofs.OpenFaults.{passed_fails}
use Rattle.luks_reading.proofs.TriedKeyslots.{luks1_own, luks1_refused_tried, luks1_tried, passed_none}
use Rattle.luks_reading.proofs.unlocking.try_luks1.Goals as goal

pub returns-in-Ok-clause-tried : goal.returns-in-Ok-clause-tried
returns-in-Ok-clause-tried g c = λ tells.
    luks1_tried c.args.older c.args.header.now (g.D.Device.bytes c.args.device.now) c.args.n c.args.passphrase.now c.in-Ok.found (c.in-Ok.ensures.opens tells)

pub returns-in-Err-clause-tried : goal.returns-in-Err-clause-tried
returns-in-Err-clause-tried g c = λ tells.
    let v = g.D.Device.bytes c.args.device.now in
    let long : g.D.Device.size c.args.device.now ≡ length v = sym (g.met.D.Device.sized c.args.device.now tells) in
    rw c.passed_over.ensures
    (luks1_refused_tried c.args.older c.args.header.now v c.args.n c.args.passphrase.now c.in-Err.fault
    (subst (λ (m : ℕ). Luks1Refused c.args.older c.args.header.now m c.args.n c.in-Err.fault) long c.in-Err.ensures.refused))

pub returns-in-Err-clause-kinds : goal.returns-in-Err-clause-kinds
returns-in-Err-clause-kinds g c =
    rw c.passed_over.ensures
    (passed_fails c.in-Err.fault (luks1_own c.args.older c.args.header.now (g.D.Device.size c.args.device.now) c.args.n c.in-Err.fault c.in-Err.ensures.refused))

pub returns-in-Err-clause-length : goal.returns-in-Err-clause-length
returns-in-Err-clause-length g c = rw c.passed_over.ensures (passed_none _ c.in-Err.fault)
