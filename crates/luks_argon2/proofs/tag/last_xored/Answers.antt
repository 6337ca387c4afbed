use Rattle.std.proofs.Common.{◌≡◌, ℕ, ◌*◌, arith, refl}
use Rattle.luks_argon2.specs.Argon2.{last_xored}
use Rattle.luks_argon2.proofs.StartFacts.{last_next}
use Rattle.luks_argon2.proofs.tag.last_xored.Goals as goal

pub sum-init : goal.sum-init
unfolding last_xored
sum-init c = λ lanes held. refl

pub sum-preserved : goal.sum-preserved
sum-preserved c = λ lanes held.
    let g : ℕ = c.args.shape.segment in
    last_next c.args.memory.now lanes (4 * g) g c.sum.lane c.args.shape.passes c.place_of-place.result c.sum.last c.xored-last.result refl (omega arith) c.requires.some
    (held c.sum.lane c.sum-test.true) c.place_of-place.ensures.exact (c.sum.invariant lanes held) c.xored-last.ensures

pub returns : goal.returns
returns c = λ lanes held.
    let done : c.sum.lane ≡ c.args.shape.lanes = omega (arith, c.sum.auto.lane-end) in
    rw (← done) (c.sum.invariant lanes held)
