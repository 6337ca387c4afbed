use Rattle.std.proofs.Common.{refl, arith}
use Rattle.luks_keeping.proofs.backing_up.fitting_size.Goals as goal

pub returns-else-size-total-clause-short : goal.returns-else-size-total-clause-short
returns-else-size-total-clause-short c = λ v is. record {
  size = c.in-Some.size;
  is_size = c.in-Some.ensures.some v is;
  short = (let past = c.if-size-total.false in omega (arith, past));
}

pub returns-in-None-clause-short : goal.returns-in-None-clause-short
returns-in-None-clause-short c = λ v is. (
    let lacks = c.in-None.ensures.none v is refl in
    let long = lacks.long in
    let fits = c.ranges.total.fits in
    record { size = lacks.size; is_size = lacks.is_size; short = omega (arith, long, fits) })
