use Rattle.std.proofs.Common.{◌≡◌, length, rules, arith}
use Rattle.luks_area.specs.Ranges.{part}
use Rattle.luks_given.proofs.PartFacts.{read-placed}
use Rattle.luks_given.proofs.given_parts.GivenPartsDevice.read_at.Goals as goal

pub overflow_add-k : goal.overflow_add-k
overflow_add-k g c =
    let self = c.args.self.now in
    let both = read-placed self.parts.now c.args.at (length c.args.into.now) c.in-Ok.k self.held.now g.K.Given.bytes c.in-Ok.ensures.there self.known self.counted in
    let within = both.0 in
    omega (arith, within)

pub slice_bounds-copy_from_slice-end : goal.slice_bounds-copy_from_slice-end
slice_bounds-copy_from_slice-end g c =
    let self = c.args.self.now in
    let both = read-placed self.parts.now c.args.at (length c.args.into.now) c.in-Ok.k self.held.now g.K.Given.bytes c.in-Ok.ensures.there self.known self.counted in
    let within = both.0 in
    omega (arith, within)

pub returns-in-Ok-clause-read : goal.returns-in-Ok-clause-read
returns-in-Ok-clause-read g c =
    let self = c.args.self.now in
    let both = read-placed self.parts.now c.args.at (length c.args.into.now) c.in-Ok.k self.held.now g.K.Given.bytes c.in-Ok.ensures.there self.known self.counted in
    let same : part self.held.now c.in-Ok.k (length c.args.into.now) ≡ part g.K.Given.bytes c.args.at (length c.args.into.now) = both.1 in
    search rules
