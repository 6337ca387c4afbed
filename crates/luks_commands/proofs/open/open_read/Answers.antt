use Rattle.std.proofs.Common.{sym, subst}
use Rattle.luks_wide_reading.specs.Headers.{IsWideHeader}
use Rattle.luks_commands.specs.OpenAnswers.{IsWideAnswer}
use Rattle.luks_commands.proofs.UnderwayOpening.{wide_narrow, wide_underway, wide_unread}
use Rattle.luks_commands.proofs.open.open_read.Goals as goal

pub returns-in-Ok-Narrow-clause-answers : goal.returns-in-Ok-Narrow-clause-answers
returns-in-Ok-Narrow-clause-answers g c =
    let v = g.D.Device.bytes c.args.device.now in
    let w = g.D.Device.bytes c.read_wide_header.new.device in
    let p = c.args.passphrase.now in
    let slot = c.args.tried.now.slot in
    let before = g.D.Device.failed c.args.device.now in
    let after = g.D.Device.failed c.open_narrow.new.device in
    subst (λ a. IsWideAnswer g.D.Device.tells a v slot p before after c.open_narrow.result) c.allowed_of-allowed.ensures
    (subst (λ m. IsWideAnswer g.D.Device.tells c.allowed_of-allowed.result v slot p m after c.open_narrow.result) c.in-Ok-Narrow.ensures.count
    (wide_narrow g.D.Device.tells c.allowed_of-allowed.result v w c.in-Ok-Narrow.header slot p (g.D.Device.failed c.read_wide_header.new.device) after c.open_narrow.result
    c.in-Ok-Narrow.ensures.unchanged.same (λ t. subst (IsWideHeader v) c.in-Ok-Narrow.field-0-is (c.in-Ok-Narrow.ensures.read t)) c.open_narrow.ensures.answers))

pub returns-in-Ok-Underway-clause-answers : goal.returns-in-Ok-Underway-clause-answers
returns-in-Ok-Underway-clause-answers g c =
    let v = g.D.Device.bytes c.args.device.now in
    let w = g.D.Device.bytes c.read_wide_header.new.device in
    let p = c.args.passphrase.now in
    let slot = c.args.tried.now.slot in
    let before = g.D.Device.failed c.args.device.now in
    let after = g.D.Device.failed c.open_underway.new.device in
    subst (λ a. IsWideAnswer g.D.Device.tells a v slot p before after c.open_underway.result) c.allowed_of-allowed.ensures
    (subst (λ m. IsWideAnswer g.D.Device.tells c.allowed_of-allowed.result v slot p m after c.open_underway.result) c.in-Ok-Underway.ensures.count
    (wide_underway g.D.Device.tells c.allowed_of-allowed.result v w c.in-Ok-Underway.copy slot p (g.D.Device.failed c.read_wide_header.new.device) after c.open_underway.result
    c.in-Ok-Underway.ensures.unchanged.same (λ t. subst (IsWideHeader v) c.in-Ok-Underway.field-0-is (c.in-Ok-Underway.ensures.read t)) c.open_underway.ensures.answers))

pub returns-in-Err-clause-answers : goal.returns-in-Err-clause-answers
returns-in-Err-clause-answers g c =
    let v = g.D.Device.bytes c.args.device.now in
    let p = c.args.passphrase.now in
    let slot = c.args.tried.now.slot in
    let before = g.D.Device.failed c.args.device.now in
    let after = g.D.Device.failed c.read_wide_header.new.device in
    subst (λ a. IsWideAnswer g.D.Device.tells a v slot p before after c.unread_header.result) c.allowed_of-allowed.ensures
    (subst (IsWideAnswer g.D.Device.tells c.allowed_of-allowed.result v slot p before after) (sym c.unread_header.ensures)
    (wide_unread g.D.Device.tells c.allowed_of-allowed.result v slot p before after c.in-Err.fault c.in-Err.ensures.count c.in-Err.ensures.refused))
