use Rattle.std.proofs.Common.{◌≡◌, ℕ, ◌∙◌, length, replicate, ap, sym, arith}
use Rattle.std.proofs.lemmas.List.{length-replicate}
use Rattle.luks_area.proofs.RangeFacts.{part-written}
use Rattle.luks_area.specs.Ranges.{part, written}
use Rattle.luks_slot.proofs.wiping.wipe.Goals as goal

pub returns-clause-wiped : goal.returns-clause-wiped
returns-clause-wiped g c tells =
    let area = c.args.area in
    let v = g.D.Device.bytes c.args.device.now in
    let zeros = replicate area.len 0 in
    let size : length zeros ≡ area.len = length-replicate {A = ℕ} area.len 0 in
    let long : length v ≡ g.D.Device.size c.args.device.now = g.met.D.Device.sized c.args.device.now tells in
    let within = c.requires.within in
    ap (λ u. part u area.start area.len) (c.in_ok-fill.ensures.filled tells)
    ∙ ap (part (written v area.start zeros) area.start) (sym size)
    ∙ part-written v area.start zeros (omega (arith, long, size, within))
