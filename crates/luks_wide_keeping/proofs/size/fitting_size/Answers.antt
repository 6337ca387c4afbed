use Rattle.std.proofs.Common.{arith}
use Rattle.luks_reading.specs.declared.report.Data.TheVariants.{Elsewhere}
use Rattle.luks_wide_keeping.proofs.CopyFacts.{backup_size}
use Rattle.luks_wide_keeping.proofs.size.fitting_size.Goals as goal

pub returns-then-size-total-clause-size : goal.returns-then-size-total-clause-size
returns-then-size-total-clause-size c = λ v is. backup_size v c.args.copy.now is Elsewhere c.in-Some.size c.in-Some.ensures

pub returns-else-size-total-clause-short : goal.returns-else-size-total-clause-short
returns-else-size-total-clause-short c = λ v is. record {
  size = c.in-Some.size;
  is_size = backup_size v c.args.copy.now is Elsewhere c.in-Some.size c.in-Some.ensures;
  short = (let past = c.if-size-total.false in omega (arith, past));
}

pub returns-in-None-clause-short : goal.returns-in-None-clause-short
returns-in-None-clause-short c = λ v is. (
    let x = c.in-None.ensures in
    let long = x.1.1 in
    let fits = c.ranges.total.fits in
    record { size = x.0; is_size = backup_size v c.args.copy.now is Elsewhere x.0 x.1.0; short = omega (arith, long, fits) })
