use Rattle.std.proofs.Common.{◌≡◌, length, arith, sym, subst, ◌∙◌}
use Rattle.luks_formatting.specs.Given.{IsSound2}
use Rattle.luks_formatting.specs.NewHeader2.{segment_sector}
use Rattle.luks_formatting.proofs.EncryptingFacts.{sizes}
use Rattle.luks_formatting.proofs.GivenFacts.{placed2}
use Rattle.luks_formatting.proofs.Written2Facts.{before_payload}
use Rattle.luks_formatting.proofs.Formatted2Facts.{slot_opens, well_formed}
use Rattle.luks_formatting.proofs.volume2.make.Goals as goal

pub returns-clause-well_formed :
    goal.returns-clause-well_formed
returns-clause-well_formed g c tells =
    let volume = c.args.volume.now in
    let bytes = g.D.Device.bytes in
    let w = bytes c.write_made.new.device in
    let ready = c.in_ok-judge.ensures.formattable in
    let some = ready.iterations in
    let least = ready.large in
    let total = c.len.ensures in
    let size : length w ≡ g.D.Device.size c.args.device.now = g.met.D.Device.sized c.write_made.new.device tells ∙ c.write_made.ensures.size in
    well_formed volume.given.now volume.format.now volume.chosen volume.passphrase.bytes.now volume.random.now (bytes c.args.device.now) w
    (omega (arith, some)) (omega (arith, size, least, total)) ready.counted (subst (IsSound2 volume.given.now) (sym (size ∙ sym total)) ready.sound) c.in-Ok.ensures.fits (c.in_ok-write_made.ensures.formatted tells)

pub returns-clause-opens :
    goal.returns-clause-opens
returns-clause-opens g c tells allowed enough may =
    let volume = c.args.volume.now in
    let bytes = g.D.Device.bytes in
    let w = bytes c.write_made.new.device in
    let ready = c.in_ok-judge.ensures.formattable in
    let some = ready.iterations in
    let least = ready.large in
    let total = c.len.ensures in
    let size : length w ≡ g.D.Device.size c.args.device.now = g.met.D.Device.sized c.write_made.new.device tells ∙ c.write_made.ensures.size in
    slot_opens volume.given.now volume.format.now volume.chosen volume.passphrase.bytes.now volume.random.now (bytes c.args.device.now) w
    (omega (arith, some)) (omega (arith, size, least, total)) ready.counted (subst (IsSound2 volume.given.now) (sym (size ∙ sym total)) ready.sound) c.in-Ok.ensures.fits (c.in_ok-write_made.ensures.formatted tells)
    volume.passphrase.allowed.memory allowed ready.makeable enough may

pub returns-clause-payload :
    goal.returns-clause-payload
returns-clause-payload g c tells here =
    let volume = c.args.volume.now in
    let ready = c.in_ok-judge.ensures.formattable in
    before_payload volume.given.now.key_bytes (segment_sector volume.given.now) (sizes volume.given.now.cipher volume.given.now.key_bytes ready.sound.takes).high (placed2 volume.given.now c.len.result ready.sound ready.large here).low (c.write_made.ensures.rest tells)

pub returns-in_err-write_made-clause-payload :
    goal.returns-in_err-write_made-clause-payload
returns-in_err-write_made-clause-payload g c tells here =
    let volume = c.args.volume.now in
    let ready = c.in_ok-judge.ensures.formattable in
    before_payload volume.given.now.key_bytes (segment_sector volume.given.now) (sizes volume.given.now.cipher volume.given.now.key_bytes ready.sound.takes).high (placed2 volume.given.now c.len.result ready.sound ready.large here).low (c.write_made.ensures.rest tells)

pub new_area-requires-clause-small : goal.new_area-requires-clause-small
new_area-requires-clause-small g c =
    let given = c.args.volume.now.given.now in
    (sizes given.cipher given.key_bytes c.in_ok-judge.ensures.formattable.sound.takes).high
