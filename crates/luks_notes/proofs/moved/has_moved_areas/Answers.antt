use Rattle.std.proofs.Common.{◌≡◌, ℕ, ◌≤◌, List, length, arith, subst}
use Rattle.luks_area.specs.Ranges.{part}
use Rattle.luks_notes.proofs.MovedFacts.{moved_of}
use Rattle.luks_notes.proofs.moved.has_moved_areas.Goals as goal

pub returns-clause-moved : goal.returns-clause-moved
returns-clause-moved g c = λ tells.
    let v : List ℕ = g.D.Device.bytes c.args.device.now in
    let sized : length v ≡ g.D.Device.size c.args.device.now = g.met.D.Device.sized c.args.device.now tells in
    let long : 33280 ≤ length v = omega (arith, sized, c.len.ensures, c.if-len.false) in
    let first = c.in_ok-read_at.ensures.read tells in
    let second = c.in_ok-read_at-2.ensures.read tells in
    let same = c.in_ok-read_at.ensures.unchanged.same tells in
    moved_of v c.read_at.new.into c.read_at-2.new.into c.are_of_one_area.result long first
    (subst (λ (w : List ℕ). c.read_at-2.new.into ≡ part w 32768 512) same second) c.are_of_one_area.ensures
