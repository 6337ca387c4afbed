use Rattle.std.proofs.Common.{◌≡◌, ℕ, List, length, arith}
use Rattle.luks_reading.proofs.CheckFacts.{on_ok}
use Rattle.luks_keeping.proofs.ClearFacts.{filled_keeps}
use Rattle.luks_keeping.proofs.second_places.wipe_sector.Goals as goal

pub returns-clause-still : goal.returns-clause-still
returns-clause-still g c = λ tells.
    let u : List ℕ = g.T.Device.bytes c.args.target.now in
    let size : length u ≡ g.T.Device.size c.args.target.now = g.met.T.Device.sized c.args.target.now tells in
    let inside = c.requires.inside in
    let within = c.requires.within in
    on_ok c.fill.result (λ is. filled_keeps u (g.T.Device.bytes c.fill.new.device) c.args.at c.args.len (omega (arith, size, inside, within)) is) (c.fill.ensures.filled tells)
