use Rattle.std.proofs.Common.{◌≡◌, ◌+◌, length, arith, ap, ◌∙◌}
use Rattle.luks_area.proofs.DeviceFacts.{touches-flush, touches-settled}
use Rattle.luks_area.specs.Ranges.{part}
use Rattle.luks_writing.proofs.CopyFacts.{area_there, copy_begun, copy_rest, head_there}
use Rattle.luks_writing.proofs.header_copy.write_both.Goals as goal

pub returns-in_err-write_at-clause-rest : goal.returns-in_err-write_at-clause-rest
returns-in_err-write_at-clause-rest g c tells =
    touches-settled (c.requires.device.settled tells) (copy_begun c.args.at (length c.args.head.now) (length c.args.json.now) c.requires.head (c.write_at.ensures.touches tells))

pub returns-in_err-write_at-2-clause-rest : goal.returns-in_err-write_at-2-clause-rest
returns-in_err-write_at-2-clause-rest g c tells =
    touches-settled (c.requires.device.settled tells)
    (copy_rest c.args.at (length c.args.head.now) (length c.args.json.now) c.requires.head (c.write_at.ensures.touches tells) (c.write_at-2.ensures.touches tells))

pub returns-in_err-flush-clause-rest : goal.returns-in_err-flush-clause-rest
returns-in_err-flush-clause-rest g c tells =
    touches-settled (c.requires.device.settled tells)
    (touches-flush (copy_rest c.args.at (length c.args.head.now) (length c.args.json.now) c.requires.head (c.write_at.ensures.touches tells) (c.write_at-2.ensures.touches tells)) (c.flush.ensures.touches tells))

pub returns-clause-rest : goal.returns-clause-rest
returns-clause-rest g c tells =
    touches-settled (c.requires.device.settled tells)
    (touches-flush (copy_rest c.args.at (length c.args.head.now) (length c.args.json.now) c.requires.head (c.write_at.ensures.touches tells) (c.write_at-2.ensures.touches tells)) (c.flush.ensures.touches tells))

pub returns-clause-head : goal.returns-clause-head
returns-clause-head g c tells =
    let bytes = g.D.Device.bytes in
    let v = bytes c.args.device.now in
    let size : length v ≡ g.D.Device.size c.args.device.now = g.met.D.Device.sized c.args.device.now tells in
    let within = c.requires.within in
    ap (λ l. part l c.args.at 4096) (c.in_ok-flush.ensures.same tells)
    ∙ head_there v (bytes c.write_at.new.self) (bytes c.write_at-2.new.self) c.args.head.now c.args.json.now c.args.at (omega (arith, size, within)) c.requires.head
    (c.in_ok-write_at.ensures.wrote tells) (c.in_ok-write_at-2.ensures.wrote tells)

pub returns-clause-area : goal.returns-clause-area
returns-clause-area g c tells =
    let bytes = g.D.Device.bytes in
    let v = bytes c.args.device.now in
    let size : length v ≡ g.D.Device.size c.args.device.now = g.met.D.Device.sized c.args.device.now tells in
    let within = c.requires.within in
    ap (λ l. part l (c.args.at + 4096) (length c.args.json.now)) (c.in_ok-flush.ensures.same tells)
    ∙ area_there v (bytes c.write_at.new.self) (bytes c.write_at-2.new.self) c.args.head.now c.args.json.now c.args.at (omega (arith, size, within)) c.requires.head
    (c.in_ok-write_at.ensures.wrote tells) (c.in_ok-write_at-2.ensures.wrote tells)
