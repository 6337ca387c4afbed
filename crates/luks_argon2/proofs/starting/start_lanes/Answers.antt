use Rattle.std.proofs.Common.{ℕ, ◌+◌, ◌*◌, ◌<◌, ◌≤◌, length, arith, refl}
use Rattle.luks_argon2.proofs.SegmentFacts.{place_fits}
use Rattle.luks_argon2.proofs.StartFacts.{lanes_started, started_next}
use Rattle.luks_argon2.proofs.starting.start_lanes.Goals as goal

pub all-preserved : goal.all-preserved
all-preserved c =
    let g : ℕ = c.args.shape.segment in
    let q : ℕ = 4 * g in
    let l : ℕ = c.all.lane in
    let h = place_fits l c.args.shape.lanes g 1 c.all-test.true (omega arith) in
    let fits : l * q + 1 < length c.all.memory = omega (arith, h) in
    started_next c.all.memory c.args.digest.now q l _ _ _ _ (omega arith) fits c.place_of-first.ensures.exact c.place_of-second.ensures.exact
    c.first_block.ensures c.first_block-in-all.ensures c.all.invariant

pub returns : goal.returns
returns c =
    let g : ℕ = c.args.shape.segment in
    let all : c.args.shape.lanes ≤ c.all.lane = omega arith in
    lanes_started c.all.memory c.args.digest.now (4 * g) c.args.shape.lanes g refl (omega arith) (λ k lt. c.all.invariant k (omega (arith, all, lt)))
