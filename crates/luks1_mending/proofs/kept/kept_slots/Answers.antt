use Rattle.std.proofs.Common.{◌≡◌, ℕ, subst, arith}
use Rattle.luks1_mending.specs.Judging.{set_of, AreKeptSoFar}
use Rattle.luks1_mending.proofs.KeptFacts.{all_judged, none_among, none_so_far}
use Rattle.luks1_mending.proofs.kept.kept_slots.Goals as goal

pub loop-rank-init : goal.loop-rank-init
loop-rank-init c = none_so_far c.args.header.now c.args.key_bytes c.args.total _ none_among

pub returns : goal.returns
returns c =
    let last : c.loop-rank.rank ≡ 4 = (let low = c.loop-rank-test.false in let high = c.loop-rank.auto.rank-end in omega (arith, low, high)) in
    all_judged c.args.header.now c.args.key_bytes c.args.total (set_of c.loop-rank.kept)
    (subst (λ (r : ℕ). AreKeptSoFar c.args.header.now c.args.key_bytes c.args.total r 0 (set_of c.loop-rank.kept)) last c.loop-rank.invariant)
