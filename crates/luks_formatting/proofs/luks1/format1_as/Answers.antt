use Rattle.std.proofs.Common.{◌≡◌, length, arith, sym, subst, ◌∙◌}
use Rattle.luks_formatting.specs.Given.{IsSound1}
use Rattle.luks_formatting.specs.NewHeader1.{payload_sector}
use Rattle.luks_formatting.proofs.GivenFacts.{placed1}
use Rattle.luks_formatting.proofs.Written1Facts.{before_payload}
use Rattle.luks_formatting.proofs.Formatted1Facts.{slot_opens, well_formed}
use Rattle.luks_formatting.proofs.luks1.format1_as.Goals as goal

pub returns-clause-well_formed : goal.returns-clause-well_formed
returns-clause-well_formed g c tells =
    let bytes = g.D.Device.bytes in
    let w = bytes c.write_volume.new.device in
    let ready = c.in_ok-judge.ensures.formattable in
    let some = ready.iterations in
    let least = ready.large in
    let total = c.len.ensures in
    let size : length w ≡ g.D.Device.size c.args.device.now = g.met.D.Device.sized c.write_volume.new.device tells ∙ c.write_volume.ensures.size in
    well_formed c.args.given.now c.args.format.now c.args.passphrase.now c.args.random.now (bytes c.args.device.now) w
    (omega (arith, some)) (omega (arith, size, least, total)) (subst (IsSound1 c.args.given.now) (sym (size ∙ sym total)) ready.sound) (c.in_ok-write_volume.ensures.formatted tells)

pub returns-clause-opens : goal.returns-clause-opens
returns-clause-opens g c tells allowed may =
    let bytes = g.D.Device.bytes in
    let w = bytes c.write_volume.new.device in
    let ready = c.in_ok-judge.ensures.formattable in
    let some = ready.iterations in
    let least = ready.large in
    let total = c.len.ensures in
    let size : length w ≡ g.D.Device.size c.args.device.now = g.met.D.Device.sized c.write_volume.new.device tells ∙ c.write_volume.ensures.size in
    slot_opens c.args.given.now c.args.format.now c.args.passphrase.now c.args.random.now (bytes c.args.device.now) w
    (omega (arith, some)) (omega (arith, size, least, total)) (subst (IsSound1 c.args.given.now) (sym (size ∙ sym total)) ready.sound) (c.in_ok-write_volume.ensures.formatted tells) allowed may ready.counted

pub returns-clause-payload : goal.returns-clause-payload
returns-clause-payload g c tells here =
    let ready = c.in_ok-judge.ensures.formattable in
    before_payload c.args.given.now.key_bytes (payload_sector c.args.given.now) (placed1 c.args.given.now c.len.result ready.sound ready.large here).low (c.write_volume.ensures.rest tells)

pub returns-in_err-write_volume-clause-payload : goal.returns-in_err-write_volume-clause-payload
returns-in_err-write_volume-clause-payload g c tells here =
    let ready = c.in_ok-judge.ensures.formattable in
    before_payload c.args.given.now.key_bytes (payload_sector c.args.given.now) (placed1 c.args.given.now c.len.result ready.sound ready.large here).low (c.write_volume.ensures.rest tells)
