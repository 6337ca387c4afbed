use Rattle.std.proofs.Common.{◌≡◌, refl, length, arith}
use Rattle.luks1_edits.proofs.StepFacts.{entry_range, entry_written}
use Rattle.luks1_edits.proofs.steps.write_entry.Goals as goal

pub returns-in_err-write_range-clause-rest : goal.returns-in_err-write_range-clause-rest
returns-in_err-write_range-clause-rest g c tells =
    let u = g.D.Device.bytes c.write_range.new.device in
    entry_range (g.D.Device.bytes c.args.device.now) u u c.args.n (length c.args.bytes.now) c.requires.bytes (c.write_range.ensures.outside tells) refl

pub returns-clause-rest : goal.returns-clause-rest
returns-clause-rest g c tells =
    let u = g.D.Device.bytes c.write_range.new.device in
    entry_range (g.D.Device.bytes c.args.device.now) u u c.args.n (length c.args.bytes.now) c.requires.bytes (c.write_range.ensures.outside tells) refl

pub returns-clause-entry : goal.returns-clause-entry
returns-clause-entry g c tells =
    let v = g.D.Device.bytes c.args.device.now in
    let u = g.D.Device.bytes c.write_range.new.device in
    let size : length v ≡ g.D.Device.size c.args.device.now = g.met.D.Device.sized c.args.device.now tells in
    let within = c.requires.within in
    entry_written v u u c.args.bytes.now c.args.n c.requires.bytes c.requires.numbered (omega (arith, size, within)) (c.in_ok-write_range.ensures.wrote tells) refl
