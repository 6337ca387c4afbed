use Rattle.std.proofs.Common.{◌≡◌, length, inr, arith, ap, ◌∙◌}
use Rattle.luks_area.proofs.DeviceFacts.{touches-flush, touches-settled}
use Rattle.luks_area.specs.Ranges.{part}
use Rattle.luks_writing.specs.Cleared.{IsCleared}
use Rattle.luks_writing.proofs.ClearedFacts.{first_stays, zeros_stand}
use Rattle.luks_writing.proofs.clearing.clear_places.Goals as goal

-- the other sector wasn't written whole

pub returns-in_err-fill-2-clause-order : goal.returns-in_err-fill-2-clause-order
returns-in_err-fill-2-clause-order g c = λ tells.
    let bytes = g.D.Device.bytes in
    let size : length (bytes c.args.device.now) ≡ g.D.Device.size c.args.device.now = g.met.D.Device.sized c.args.device.now tells in
    let within = c.requires.within in
    let first : IsCleared (bytes c.flush.new.self) 0 = ap (λ v. part v 0 512) (c.in_ok-flush.ensures.same tells)
    ∙ zeros_stand (bytes c.args.device.now) (bytes c.fill.new.device) 0 (omega (arith, within, size)) (c.in_ok-fill.ensures.filled tells) in
    inr (first_stays (bytes c.flush.new.self) (bytes c.fill-2.new.device) c.args.second c.requires.apart
    (touches-settled (c.in_ok-flush.ensures.settled tells) (c.fill-2.ensures.touches tells)) first)

-- it was, and the flush failed

pub returns-in_err-flush-2-clause-order : goal.returns-in_err-flush-2-clause-order
returns-in_err-flush-2-clause-order g c = λ tells.
    let bytes = g.D.Device.bytes in
    let size : length (bytes c.args.device.now) ≡ g.D.Device.size c.args.device.now = g.met.D.Device.sized c.args.device.now tells in
    let within = c.requires.within in
    let first : IsCleared (bytes c.flush.new.self) 0 = ap (λ v. part v 0 512) (c.in_ok-flush.ensures.same tells)
    ∙ zeros_stand (bytes c.args.device.now) (bytes c.fill.new.device) 0 (omega (arith, within, size)) (c.in_ok-fill.ensures.filled tells) in
    inr (first_stays (bytes c.flush.new.self) (bytes c.flush-2.new.self) c.args.second c.requires.apart
    (touches-settled (c.in_ok-flush.ensures.settled tells) (touches-flush (c.fill-2.ensures.touches tells) (c.flush-2.ensures.touches tells))) first)

-- done

pub returns-clause-order : goal.returns-clause-order
returns-clause-order g c = λ tells.
    let bytes = g.D.Device.bytes in
    let size : length (bytes c.args.device.now) ≡ g.D.Device.size c.args.device.now = g.met.D.Device.sized c.args.device.now tells in
    let within = c.requires.within in
    let first : IsCleared (bytes c.flush.new.self) 0 = ap (λ v. part v 0 512) (c.in_ok-flush.ensures.same tells)
    ∙ zeros_stand (bytes c.args.device.now) (bytes c.fill.new.device) 0 (omega (arith, within, size)) (c.in_ok-fill.ensures.filled tells) in
    inr (first_stays (bytes c.flush.new.self) (bytes c.flush-2.new.self) c.args.second c.requires.apart
    (touches-settled (c.in_ok-flush.ensures.settled tells) (touches-flush (c.fill-2.ensures.touches tells) (c.flush-2.ensures.touches tells))) first)

pub returns-clause-cleared : goal.returns-clause-cleared
returns-clause-cleared g c = λ tells.
    let bytes = g.D.Device.bytes in
    let size : length (bytes c.args.device.now) ≡ g.D.Device.size c.args.device.now = g.met.D.Device.sized c.args.device.now tells in
    let mid : length (bytes c.flush.new.self) ≡ g.D.Device.size c.flush.new.self = g.met.D.Device.sized c.flush.new.self tells in
    let filled = c.fill.ensures.size in
    let flushed = c.flush.ensures.size in
    let within = c.requires.within in
    let first : IsCleared (bytes c.flush.new.self) 0 = ap (λ v. part v 0 512) (c.in_ok-flush.ensures.same tells)
    ∙ zeros_stand (bytes c.args.device.now) (bytes c.fill.new.device) 0 (omega (arith, within, size)) (c.in_ok-fill.ensures.filled tells) in
    record {
      first_copy = first_stays (bytes c.flush.new.self) (bytes c.flush-2.new.self) c.args.second c.requires.apart
          (touches-settled (c.in_ok-flush.ensures.settled tells) (touches-flush (c.fill-2.ensures.touches tells) (c.flush-2.ensures.touches tells))) first;
      second_copy = ap (λ v. part v c.args.second 512) (c.in_ok-flush-2.ensures.same tells)
          ∙ zeros_stand (bytes c.flush.new.self) (bytes c.fill-2.new.device) c.args.second (omega (arith, within, mid, filled, flushed)) (c.in_ok-fill-2.ensures.filled tells);
    }
