use Rattle.std.proofs.Common.{◌≡◌, length, arith}
use Rattle.luks1_edits.proofs.StepFacts.{uuid_range, uuid_written}
use Rattle.luks1_edits.proofs.steps.write_uuid.Goals as goal

pub returns-in_err-write_range-clause-rest : goal.returns-in_err-write_range-clause-rest
returns-in_err-write_range-clause-rest g c tells =
    uuid_range (g.D.Device.bytes c.args.device.now) (g.D.Device.bytes c.write_range.new.device) (length c.args.bytes.now) c.requires.bytes (c.write_range.ensures.outside tells)

pub returns-clause-rest : goal.returns-clause-rest
returns-clause-rest g c tells =
    uuid_range (g.D.Device.bytes c.args.device.now) (g.D.Device.bytes c.write_range.new.device) (length c.args.bytes.now) c.requires.bytes (c.write_range.ensures.outside tells)

pub returns-clause-uuid : goal.returns-clause-uuid
returns-clause-uuid g c tells =
    let v = g.D.Device.bytes c.args.device.now in
    let size : length v ≡ g.D.Device.size c.args.device.now = g.met.D.Device.sized c.args.device.now tells in
    let within = c.requires.within in
    uuid_written v (g.D.Device.bytes c.write_range.new.device) c.args.bytes.now c.requires.bytes (omega (arith, size, within)) (c.in_ok-write_range.ensures.wrote tells)
