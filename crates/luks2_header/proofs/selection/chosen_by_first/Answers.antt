use Rattle.std.proofs.Common.{ℕ, ◌+◌, ◌≤◌, List, length, arith}
use Rattle.luks2_header.specs.Header2.{header_at, hdr_size}
use Rattle.luks2_header.proofs.CopyFacts.{listed_at_least}
use Rattle.luks2_header.proofs.selection.chosen_by_first.Goals as goal

pub returns-then-len-lt-WINDOW-clause-found : goal.returns-then-len-lt-WINDOW-clause-found
returns-then-len-lt-WINDOW-clause-found g c = λ t sound.
    let v : List ℕ = g.D.Device.bytes c.args.device.now in
    let long : 16384 ≤ hdr_size (header_at v 0) = listed_at_least _ sound.form.listed in
    let inside : 0 + hdr_size (header_at v 0) ≤ length v = sound.form.inside in
    let sized = g.met.D.Device.sized c.args.device.now t in
    omega (arith, sized, long, inside)
