use Rattle.std.proofs.Common.{◌*◌, sym}
use Rattle.luks_timing.proofs.SampleFacts.{no_time, quotient}
use Rattle.luks_timing.proofs.sample.Sample.most.Goals as goal

-- src/sample.rt:36:13
pub returns-then-each-eq0 : goal.returns-then-each-eq0
returns-then-each-eq0 c = no_time c.args.least c.args.greatest c.args.unit c.args.self.work c.args.self.nanoseconds (c.args.milliseconds * 1000000) c.requires
    (rw (sym c.from-3.ensures) (rw (sym c.from-4.ensures) c.if-each-eq0.true))

-- src/sample.rt:29:5
pub returns : goal.returns
returns c = rw c.max.ensures (rw c.min-fitting.ensures (rw c.from.ensures (rw c.from-2.ensures (rw c.from-3.ensures (rw c.from-4.ensures (rw c.from-5.ensures
    (quotient c.args.least c.args.greatest c.args.unit c.args.self.work c.args.self.nanoseconds (c.args.milliseconds * 1000000) c.requires
    (λ zero. c.if-each-eq0.false (rw c.from-3.ensures (rw c.from-4.ensures zero))))))))))
