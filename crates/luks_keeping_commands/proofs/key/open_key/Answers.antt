use Rattle.std.proofs.Common.{refl, sym, subst}
use Rattle.luks_area.specs.Device.{CountsFailure}
use Rattle.luks_reading.specs.Header.{IsHeader}
use Rattle.luks_wide_reading.specs.Headers.{IsUnderwayCopy, IsWideHeader, IsWideUnread}
use Rattle.luks_commands.specs.OpenAnswers.{allowed_of}
use Rattle.luks_keeping_commands.specs.KeepingKey.{is_key_failure, opened_by, under_way, refused, IsKeyFound, IsKeyOpened, IsUnderwayFound}
use Rattle.luks_keeping_commands.proofs.KeyFacts.{counts_opened, found_narrow, found_unread}
use Rattle.luks_keeping_commands.proofs.key.open_key.Goals as goal

pub returns-in-Ok-Narrow-clause-opened : goal.returns-in-Ok-Narrow-clause-opened
returns-in-Ok-Narrow-clause-opened g c = λ tells.
    let v = g.D.Device.bytes c.args.device.now in
    let keeping = c.args.keeping.now in
    let allowed = allowed_of keeping.memory keeping.older in
    let header = c.in-Ok-Narrow.header in
    let same = c.in-Ok-Narrow.ensures.unchanged.same tells in
    let is = subst (IsWideHeader v) c.in-Ok-Narrow.field-0-is (c.in-Ok-Narrow.ensures.read tells) in
    let told = c.open_narrow.ensures.opened tells (subst (λ u. IsHeader u header) (sym same) is) in
    subst (IsKeyFound allowed v keeping.slot c.args.passphrase.now) (sym c.opened_by.ensures)
    (found_narrow allowed v header keeping.slot c.args.passphrase.now c.open_narrow.result is
    (subst (λ u. IsKeyOpened allowed u keeping.slot c.args.passphrase.now c.open_narrow.result) same told))

pub returns-in-Ok-Underway-clause-opened : goal.returns-in-Ok-Underway-clause-opened
returns-in-Ok-Underway-clause-opened g c = λ tells.
    let v = g.D.Device.bytes c.args.device.now in
    let keeping = c.args.keeping.now in
    let copy = c.in-Ok-Underway.copy in
    let same = c.in-Ok-Underway.ensures.unchanged.same tells in
    let is = subst (IsWideHeader v) c.in-Ok-Underway.field-0-is (c.in-Ok-Underway.ensures.read tells) in
    let told = c.open_underway.ensures.opened tells (subst (λ u. IsUnderwayCopy u copy) (sym same) is) in
    under_way (subst (λ u. IsUnderwayFound (allowed_of keeping.memory keeping.older) u keeping.slot c.args.passphrase.now c.open_underway.result) same told)

pub returns-in-Err-Read-clause-opened : goal.returns-in-Err-Read-clause-opened
returns-in-Err-Read-clause-opened g c = λ tells.
    let v = g.D.Device.bytes c.args.device.now in
    let keeping = c.args.keeping.now in
    rw (c.from.ensures, c.in-Err-Read.field-0-is)
    (found_unread (allowed_of keeping.memory keeping.older) v keeping.slot c.args.passphrase.now c.in-Err-Read.fault
    (subst (IsWideUnread v) c.in-Err-Read.field-0-is (c.in-Err-Read.ensures.refused tells)))

pub returns-in-Err-Underway-clause-opened : goal.returns-in-Err-Underway-clause-opened
returns-in-Err-Underway-clause-opened g c = λ tells.
    rw c.in-Err-Underway.field-0-is
    (refused c.in-Err-Underway.fault refl
    (c.in-Err-Underway.field-0-1, subst (IsWideUnread (g.D.Device.bytes c.args.device.now)) c.in-Err-Underway.field-0-is (c.in-Err-Underway.ensures.refused tells)))

pub returns-in-Ok-Narrow-clause-count : goal.returns-in-Ok-Narrow-clause-count
returns-in-Ok-Narrow-clause-count g c =
    let after = g.D.Device.failed c.open_narrow.new.device in
    subst (λ r. CountsFailure is_key_failure r (g.D.Device.failed c.args.device.now) after) (sym c.opened_by.ensures)
    (subst (λ m. CountsFailure is_key_failure (opened_by c.open_narrow.result) m after) c.in-Ok-Narrow.ensures.count
    (counts_opened c.open_narrow.result _ _ c.open_narrow.ensures.count))
