use Rattle.std.proofs.Common.{arith, ◌≡◌}
use Rattle.luks_reading.proofs.Luks1AreaFacts.{adds-one, adds-all}
use Rattle.luks_reading.proofs.layout.add_luks1_slots.Goals as goal

pub loop-n-preserved : goal.loop-n-preserved
loop-n-preserved c =
    rw c.push.ensures (adds-one _ _ _ _ _ _ c.loop-n-test.true c.loop-n.invariant c.luks1_area-area.ensures.start c.luks1_area-area.ensures.len)

pub returns-clause-listed : goal.returns-clause-listed
returns-clause-listed c =
    let done : c.loop-n.n ≡ 8 = omega (arith, c.loop-n-test.false, c.loop-n.auto.n-end) in
    (adds-all _ _ _ _ done c.loop-n.invariant).listed
