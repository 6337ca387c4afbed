use Rattle.std.proofs.Common.{arith, ◌≡◌, ◌*◌}
use Rattle.luks_argon2.specs.Argon2.{lanes_before}
use Rattle.luks_argon2.specs.Memory.{work_of}
use Rattle.luks_argon2.proofs.SliceFacts.{lanes_before_next}
use Rattle.luks_argon2.proofs.filling.fill.Goals as goal

pub all-init : goal.all-init
unfolding lanes_before
all-init c = λ lanes held. held

pub all-preserved : goal.all-preserved
all-preserved c = λ lanes held.
    rw (lanes_before_next (work_of c.args.shape) lanes c.all.slice) (c.fill_slice.ensures _ (c.all.invariant lanes held))

pub returns : goal.returns
returns c = λ lanes held.
    let done : c.all.slice ≡ 4 * c.args.shape.passes = omega (arith, c.all.auto.slice-end) in
    rw (← done) (c.all.invariant lanes held)
