use Rattle.std.proofs.Common.{◌≡◌, ◌+◌, ◌*◌, ◌-◌, take, drop, ap, ◌∙◌, arith}
use Rattle.luks_vouching.proofs.areas.sector.Goals as goal

pub returns : goal.returns
returns c =
    let size : c.args.k * 512 + 512 - c.args.k * 512 ≡ 512 = omega arith in
    let at : c.args.k * 512 ≡ 512 * c.args.k = omega arith in
    ap (λ n. take n (drop (c.args.k * 512) c.args.area.now)) size ∙ ap (λ p. take 512 (drop p c.args.area.now)) at
