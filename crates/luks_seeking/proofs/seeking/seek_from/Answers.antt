use Rattle.std.proofs.Common.{◌≡◌, ◌∙◌, ℕ, ◌-◌, ◌≤◌, List, length, length-take-le, ap, subst, sym, arith}
use Rattle.luks_area.specs.Ranges.{part}
use Rattle.luks_seeking.specs.Seeking.{FindsIn}
use Rattle.luks_seeking.proofs.PartFacts.{finds_in}
use Rattle.luks_seeking.proofs.seeking.seek_from.Goals as goal

pub returns-clause-tells : goal.returns-clause-tells
returns-clause-tells g c = λ t.
    let v : List ℕ = g.D.Device.bytes c.args.device.now in
    let from : ℕ = c.args.from in
    let start : ℕ = from - c.min.result in
    let len : ℕ = c.min-len.result in
    let next = c.in_ok-next.next in
    let long : length v ≡ c.len-total.result = g.met.D.Device.sized c.args.device.now t ∙ sym c.len-total.ensures in
    let few : len ≤ length c.args.block.now = omega arith in
    let read : c.read_at.new.into ≡ part v start len = c.in_ok-read_at.ensures.read t ∙ ap (λ k. part v start k) (length-take-le _ _ few) in
    let finds : FindsIn c.read_at.new.into (from - start) next = finds_in next c.read_at.new.into (from - start) c.in_ok-next.ensures.some c.in_ok-next.ensures.none in
    c.judged.ensures.tells v long (subst (λ area. FindsIn area (from - start) next) read finds)
