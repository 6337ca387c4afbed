use Rattle.std.proofs.Common.{◌≡◌, ℕ, List, length, arith}
use Rattle.luks_area.proofs.DeviceFacts.{touches-settled}
use Rattle.luks_writing.proofs.AreaFacts.{all_touches, copied_area, copy_touches, fill_touches}
use Rattle.luks_writing.proofs.areas.copy_area.Goals as goal

pub returns-in_err-copy_range-clause-rest : goal.returns-in_err-copy_range-clause-rest
returns-in_err-copy_range-clause-rest g c = λ tells.
    touches-settled (c.requires.target.settled tells) (copy_touches c.args.to.start c.args.from.len c.args.to.len c.requires.large (c.copy_range.ensures.touches tells))

pub returns-in_err-fill-clause-rest : goal.returns-in_err-fill-clause-rest
returns-in_err-fill-clause-rest g c = λ tells.
    touches-settled (c.requires.target.settled tells)
    (fill_touches c.args.to.start c.args.from.len c.args.to.len c.requires.large (c.copy_range.ensures.touches tells) (c.fill.ensures.touches tells))

pub returns-in_err-flush-clause-rest : goal.returns-in_err-flush-clause-rest
returns-in_err-flush-clause-rest g c = λ tells.
    touches-settled (c.requires.target.settled tells)
    (all_touches c.args.to.start c.args.from.len c.args.to.len c.requires.large (c.copy_range.ensures.touches tells) (c.fill.ensures.touches tells) (c.flush.ensures.touches tells))

pub returns-clause-rest : goal.returns-clause-rest
returns-clause-rest g c = λ tells.
    touches-settled (c.requires.target.settled tells)
    (all_touches c.args.to.start c.args.from.len c.args.to.len c.requires.large (c.copy_range.ensures.touches tells) (c.fill.ensures.touches tells) (c.flush.ensures.touches tells))

pub returns-clause-copied : goal.returns-clause-copied
returns-clause-copied g c = λ source tells.
    let s : List ℕ = g.S.Device.bytes c.args.source.now in
    let u : List ℕ = g.T.Device.bytes c.args.target.now in
    let source_size : length s ≡ g.S.Device.size c.args.source.now = g.met.S.Device.sized c.args.source.now source in
    let size : length u ≡ g.T.Device.size c.args.target.now = g.met.T.Device.sized c.args.target.now tells in
    let there = c.requires.there in
    let within = c.requires.within in
    copied_area s u (g.T.Device.bytes c.copy_range.new.target) (g.T.Device.bytes c.fill.new.device) (g.T.Device.bytes c.flush.new.self)
    c.args.from.start c.args.from.len c.args.to.start c.args.to.len c.requires.large (omega (arith, there, source_size)) (omega (arith, within, size))
    (c.in_ok-copy_range.ensures.copied source tells) (c.in_ok-fill.ensures.filled tells) (c.in_ok-flush.ensures.same tells)
